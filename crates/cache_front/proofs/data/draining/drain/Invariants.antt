use Rattle.std.proofs.Common.{◌≡◌}
use Rattle.std.specs.VecDeque.{deque_capacity}
use Rattle.cache_front.proofs.data.Drains.{Drains}
use Rattle.cache_front.proofs.data.draining.drain.Given as goal

abbrev pub invariant-loop-place : goal.invariant-loop-place
invariant-loop-place g l = record { drains : Drains l.fn.front l.fn.notes.items l.fn.count l.place l.front l.notes.items l.count; room : deque_capacity l.notes ≡ deque_capacity l.fn.notes }
