-- Room for writes.
use Rattle.std.specs.Prelude.{◌≡◌, ℕ, ◌+◌, ◌≤◌, length}
use Rattle.slab.specs.Slab.{Slab, slab_len}
use Rattle.policy_queue.specs.Indices.{Indices}
use Rattle.engine_cells.specs.Keys.Spots.{Spots}

-- nothing changed, except that more cells may fit
pub record OnlyMoreCells {X : Type 0} (old new : Slab X) : Type 0 where
  pub slots : new.slots ≡ old.slots
  pub capacity : old.capacity ≤ new.capacity

-- there is room for `more` records, where `waiting` of those that are there are in no queue
pub record HasRooms {X : Type 0} (cells : Slab X) (access order : Indices) (keys : Spots)
    (more waiting : ℕ) : Type 0 where
  pub cells_fit : slab_len cells + more ≤ cells.capacity
  pub places_fit : length cells.slots ≤ cells.capacity
  pub access_fits : waiting + more ≤ access.room
  pub access_reaches : cells.capacity ≤ access.bound
  pub order_fits : waiting + more ≤ order.room
  pub order_reaches : cells.capacity ≤ order.bound
  pub keys_fit : more ≤ keys.space
