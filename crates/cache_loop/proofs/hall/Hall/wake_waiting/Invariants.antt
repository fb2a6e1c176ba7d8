use Rattle.cache_loop.specs.Turns.{SamePairs}
use Rattle.cache_loop.proofs.hall.Hall.wake_waiting.Given as goal

abbrev pub invariant-loop-index : goal.invariant-loop-index
invariant-loop-index g l = SamePairs l.fn.self.served l.self.served
