use Rattle.std.proofs.Common.{◌≡◌, length}
use Rattle.std.specs.VecDeque.{deque_capacity}
use Rattle.cache_front.specs.Draining.{waiting_at}
use Rattle.cache_front.proofs.data.Drains.{DrainsAt}
use Rattle.cache_front.proofs.data.draining.drain_at.Given as goal

abbrev pub invariant-loop-notice : goal.invariant-loop-notice
invariant-loop-notice g l = record { drains : DrainsAt l.fn.place l.fn.front l.fn.notes.items l.fn.count l.front l.notes.items l.count; room : deque_capacity l.notes ≡ deque_capacity l.fn.notes }

abbrev pub decreases-loop-notice : goal.decreases-loop-notice
decreases-loop-notice g l = length (waiting_at l.fn.place l.front.parts)
