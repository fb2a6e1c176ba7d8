use Rattle.std.proofs.Common.{arith}
use Rattle.std.proofs.lemmas.Result.{err_from_is_err_and}
use Rattle.cache_run.proofs.Driving.{at-comes}
use Rattle.cache_run.proofs.lent.LentHost.settle.Goals as goal

pub returns : goal.returns
returns c = record {
  came = λ key. let settled = c.in_ok-settle.ensures.ok key in (settled.0, settled.1, at-comes _ _ _ _ c.args.conn.number settled.0 c.give.result settled.2 c.give.ensures.gives);
  suits = c.give.ensures.suits.0;
  rests = tt;
  known = c.give.ensures.known;
  count = omega arith;
  why = tt;
}

pub returns-in_err-settle : goal.returns-in_err-settle
returns-in_err-settle c =
    let p = err_from_is_err_and c.from_residual.result c.from_residual.ensures.1 in
    rw (p.1, p.2) (record { came = tt; suits = tt; rests = c.in_err-settle.ensures.unchanged; known = c.in_err-settle.ensures.known; count = omega arith; why = c.in_err-settle.ensures.why })
