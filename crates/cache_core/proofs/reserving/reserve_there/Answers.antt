use Rattle.std.proofs.Common.{subst, ◌+◌, ◌≤◌, vec_len, vec_capacity}
use Rattle.std.proofs.lemmas.Result.{on_ok_weaker}
use Rattle.cache_core.specs.declared.connection.connection.Connection.{Connection}
use Rattle.cache_core.proofs.Spots.{out-at, replaced, replaced-is, same-here}
use Rattle.cache_core.proofs.reserving.reserve_there.Goals as goal

pub put-requires : goal.put-requires
put-requires c = out-at c.args.connections.now c.take-connection.new.self c.args.index c.take-connection.result c.take-connection.ensures.taken c.take-connection.ensures.rest

pub returns : goal.returns
returns c =
    let cs = c.args.connections.now in
    let taken = c.take-connection.ensures.taken in
    let p = replaced c.reserve-reserved.new.connection taken c.take-connection.ensures.rest c.put.ensures in
    record {
      same = (p, c.reserve-reserved.ensures.same);
      room = on_ok_weaker c.reserve-reserved.result
          (λ room k found. subst (λ (x : Connection). vec_len x.output.text + c.args.size ≤ vec_capacity x.output.text) (same-here _ c.reserve-reserved.new.connection k (replaced-is cs c.put.new.self c.args.index p) found) room)
          c.reserve-reserved.ensures.room;
    }
