use Rattle.std.proofs.Common.{◌+◌, ◌-◌, vec_len}
use Rattle.cache_shared.specs.Seats.{SameReceipts}
use Rattle.cache_shared.proofs.seat.make_lists.Given as goal

abbrev pub invariant-loop-alloc : goal.invariant-loop-alloc
invariant-loop-alloc l = SameReceipts l.initial.lists.items l.lists.items

abbrev pub decreases-loop-alloc : goal.decreases-loop-alloc
decreases-loop-alloc l = l.namespace + 1 - vec_len l.lists
