use Rattle.std.proofs.Common.{length}
use Rattle.policy_queue.specs.Places.{slots_from}
use Rattle.engine_cells.proofs.Settling.{Seeks}
use Rattle.engine_cells.proofs.looking.first_settled.Given as goal

abbrev pub invariant-loop-next : goal.invariant-loop-next
invariant-loop-next g l = Seeks l.cells.slots l.queue.indices l.next

abbrev pub decreases-loop-next : goal.decreases-loop-next
decreases-loop-next g l = length (slots_from l.next l.queue.indices)
