use Rattle.cache_loop.specs.Turns.{begins, hears, stays}
use Rattle.cache_loop.proofs.hall.Hall.note_served.Goals as goal

pub returns-then-wake : goal.returns-then-wake
returns-then-wake g c =
    let old = c.args.self.now.served in
    stays c.wake.new.self.served c.enqueue.new.self.served c.args.steward.now (hears c.args.key _ _ old c.wake.new.self.served c.args.steward.now begins (c.wake.ensures.one c.if-wake.true)) c.enqueue.ensures

pub returns-else-wake : goal.returns-else-wake
returns-else-wake g c = stays c.args.self.now.served c.wake.new.self.served c.args.steward.now begins (c.wake.ensures.none c.if-wake.false)
