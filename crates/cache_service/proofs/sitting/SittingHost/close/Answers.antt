use Rattle.cache_service.specs.Sitting.{Closes}
use Rattle.cache_service.proofs.Seated.{closes-so}
use Rattle.cache_service.proofs.sitting.SittingHost.close.Goals as goal

pub returns-in_default : goal.returns-in_default
returns-in_default g c =
    let closes : Closes g.L.Seating.configs g.C.Shareable.spaces g.C.Shareable.untaken g.C.Shareable.KEEPS c.args.conn c.args.place.now c.step.new.seat = closes-so _ c.args.conn c.step.result c.loop-try.invariant c.step.ensures.counted c.step.ensures.unchanged in
    record { closes = closes; count = closes.rises; known = tt }
