use Rattle.std.proofs.Common.{arith}
use Rattle.engine_cells.proofs.Awaits.{timed-whole}
use Rattle.engine_cells.proofs.timing.time_all.Goals as goal

pub returns : goal.returns
returns g c =
    let many = c.capacity-place-end.ensures.slots in
    let is = c.capacity-place-end.ensures.value in
    timed-whole c.args.cells.now.slots c.loop-place.expirations c.loop-place.place (omega (arith, many, is, c.loop-place-test.false)) c.loop-place.invariant
