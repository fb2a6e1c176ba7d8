use Rattle.std.proofs.Common.{arith}
use Rattle.cache_run.specs.Driver.Exchanges.{Looked}
use Rattle.cache_run.proofs.Driving.{at-comes, none-given}
use Rattle.cache_run.proofs.lent.LentHost.await_owed.Goals as goal

pub returns : goal.returns
returns c = record {
  came = at-comes _ _ _ _ c.args.conn.number Looked c.give.result (none-given _ _ c.args.conn.number c.requires.known) c.give.ensures.gives;
  suits = c.give.ensures.suits.0;
  count = omega arith;
  known = c.give.ensures.known;
}
