-- How cells are stored in memory. No public clause cites this module.
use Rattle.std.specs.Prelude.{ℕ, ◌-◌, ◌≤◌, ◌^◌, List, map, length}
use Rattle.slab.specs.declared.Entry.{Entry}
use Rattle.slab.specs.declared.Entry.TheVariants.{Vacant, Occupied}
use Rattle.slab.specs.Entry.{IsSound}
use Rattle.policy_base.specs.declared.cells.Cell.{Cell}
use Rattle.policy_base.specs.declared.cells.Cell.TheVariants as cell

module _ {A B : Type 0} where
  -- a cell, in terms of a slab's entries
  abbrev pub slab_entry_of : Cell A B → Entry (A × B)
  slab_entry_of (cell.Vacant next) = Vacant next
  slab_entry_of (cell.Taken first second) = Occupied (first, second)

  -- the cells are those of a sound slab, and their keys have 32 bits
  pub record IsSoundly (cells : List (Cell A B)) (len next : ℕ) : Type 0 where
    pub sound : IsSound (map slab_entry_of cells) len next
    pub fits : length cells ≤ 2 ^ 32 - 2
