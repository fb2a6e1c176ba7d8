use Rattle.std.specs.Prelude.{[]}
use Rattle.cache_core.specs.Connection.Fed.{FedRan}
use Rattle.cache_core.proofs.Amid.{moved-there}
use Rattle.cache_core.proofs.Spots.{out-at, replaced}
use Rattle.cache_core.proofs.Steps.{runs-is, runs-is-here}
use Rattle.cache_core.proofs.interior.Interior.resume_there.Goals as goal

pub take-connection-requires : goal.take-connection-requires
take-connection-requires g c = runs-is-here _ c.requires.runs

pub put-requires : goal.put-requires
put-requires g c = out-at c.args.self.now.connections c.take-connection.new.self c.args.index c.take-connection.result c.take-connection.ensures.taken c.take-connection.ensures.rest

pub returns-clause-ran : goal.returns-clause-ran
returns-clause-ran g c =
    let p = replaced c.feed_ready.new.connection c.take-connection.ensures.taken c.take-connection.ensures.rest c.put.ensures in
    record {
      put = p;
      is_held = c.feed_ready.result;
      ran = moved-there g.S.Store.view g.T.Tape.view (λ k x y. FedRan c.args.now k p.was [] p.is c.feed_ready.result x y) c.args.self.now.base c.feed_ready.new.base c.args.self.now.connections c.put.new.self c.number_at-number.result c.args.index p c.number_at-number.ensures c.feed_ready.ensures.ran;
    }

pub feed_ready-requires-clause-open : goal.feed_ready-requires-clause-open
feed_ready-requires-clause-open g c = (runs-is _ c.take-connection.result c.take-connection.ensures.taken c.requires.runs).1

pub feed_ready-requires-clause-ready : goal.feed_ready-requires-clause-ready
feed_ready-requires-clause-ready g c = (runs-is _ c.take-connection.result c.take-connection.ensures.taken c.requires.runs).0
