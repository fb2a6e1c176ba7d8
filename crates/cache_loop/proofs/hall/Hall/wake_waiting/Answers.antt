use Rattle.cache_loop.proofs.Pairs.{same-on}
use Rattle.cache_loop.proofs.hall.Hall.wake_waiting.Goals as goal

pub loop-index-preserved : goal.loop-index-preserved
loop-index-preserved g c = same-on c.args.self.now.served c.loop-index.self.served c.wake_at.new.self.served c.loop-index.invariant c.wake_at.ensures
