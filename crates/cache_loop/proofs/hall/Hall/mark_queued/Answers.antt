use Rattle.std.proofs.Common.{sym}
use Rattle.cache_loop.proofs.Pairs.{pairs-kept}
use Rattle.cache_loop.proofs.hall.Hall.mark_queued.Goals as goal

pub returns-in-Some : goal.returns-in-Some
returns-in-Some g c = pairs-kept c.args.self.now.served c.args.key c.in-Some.served.now c.enqueue.new.self (sym c.in-Some.ensures.value) c.enqueue.ensures.0 c.enqueue.ensures.1
