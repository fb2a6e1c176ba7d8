use Rattle.std.proofs.Common.{length}
use Rattle.std.specs.Fn.{FnReturnsAt}
use Rattle.policy_queue.specs.Places.{slots_from}
use Rattle.policy_queue.proofs.Seeking.{Seeks}
use Rattle.policy_queue.proofs.deque.Deque.first_where.Given as goal

abbrev pub invariant-loop-next : goal.invariant-loop-next
invariant-loop-next g l = Seeks (FnReturnsAt g.F.Fn l.passes) l.self-inside.region l.self-inside.nodes l.self-inside.slots.indices l.next

abbrev pub decreases-loop-next : goal.decreases-loop-next
decreases-loop-next g l = length (slots_from l.next l.self-inside.slots.indices)
