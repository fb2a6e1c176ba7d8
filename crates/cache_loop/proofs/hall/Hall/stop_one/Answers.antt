use Rattle.cache_loop.specs.Turns.{begins, stays, stops}
use Rattle.cache_loop.proofs.hall.Hall.stop_one.Goals as goal

pub returns-then-mark_stopped : goal.returns-then-mark_stopped
returns-then-mark_stopped g c =
    let old = c.args.self.now.served in
    let marked = c.mark_stopped in
    stays marked.new.self.served c.enqueue.new.self.served c.args.steward.now (stops c.args.key old marked.new.self.served c.args.steward.now begins (marked.ensures.one c.if-mark_stopped.true)) c.enqueue.ensures

pub returns-else-mark_stopped : goal.returns-else-mark_stopped
returns-else-mark_stopped g c = stays c.args.self.now.served c.mark_stopped.new.self.served c.args.steward.now begins (c.mark_stopped.ensures.none c.if-mark_stopped.false)
