-- Cells and a queue of their places.
use Rattle.std.specs.Prelude.{◌≡◌, ℕ, ◌+◌, ◌<◌, ◌≤◌, false, length, if◌then◌else◌}
use Rattle.slab.specs.Slab.{Slab, slab_len}
use Rattle.policy_queue.specs.Indices.{Indices, has_index, without_index, index_moved_to_back}

-- a queue with this many records has room for the others, and for `more` that come
pub record HasPlacesFor {X : Type 0} (cells : Slab X) (number more : ℕ) (queue : Indices) :
    Type 0 where
  pub room : slab_len cells + more ≤ number + queue.room
  pub taken : length cells.slots ≤ queue.bound
  pub coming : slab_len cells + more ≤ queue.bound

-- a place, if it was in the queue, was removed from it
pub record StepsOut (place : ℕ) (old new : Indices) : Type 0 where
  pub indices : new.indices ≡ without_index place old.indices
  pub room : new.room ≡ old.room + (if has_index place old.indices then 1 else 0)
  pub bound : new.bound ≡ old.bound

-- a place is in the queue, or there is room for it
abbrev pub HasPlaceFor : ℕ → Indices → Type 0
HasPlaceFor place queue =
    has_index place queue.indices ≡ false → (0 < queue.room) × (place < queue.bound)

-- a place was moved or added to the back
pub record ComesLast (place : ℕ) (old new : Indices) : Type 0 where
  pub indices : new.indices ≡ index_moved_to_back place old.indices
  pub room : new.room + (if has_index place old.indices then 0 else 1) ≡ old.room
  pub bound : new.bound ≡ old.bound
