-- How the values of a slab are stored in memory. No public clause cites this module.
use Rattle.std.specs.Prelude.{ℕ, ◌-◌, ◌≤◌, ◌^◌, List, map, length, Option}
use Rattle.slab.specs.declared.Entry.{Entry}
use Rattle.slab.specs.declared.Entry.TheVariants.{Vacant, Occupied}
use Rattle.slab.specs.Entry.{value_of, IsSound}
use Rattle.engine_cells.specs.declared.cell_slab.Drawer.{Drawer}
use Rattle.engine_cells.specs.declared.cell_slab.Drawer.TheVariants as drawer

module _ {T : Type 0} where
  -- a drawer, in terms of the entries of the kit's slab
  abbrev pub slab_entry : Drawer T → Entry T
  slab_entry (drawer.Vacant next) = Vacant next
  slab_entry (drawer.Taken value) = Occupied value

  -- the value of a drawer, if it has one
  abbrev pub value_in : Drawer T → Option T
  value_in d = value_of (slab_entry d)

  -- the drawers are those of a sound slab, and their keys have 32 bits
  pub record AreSoundDrawers (drawers : List (Drawer T)) (len next : ℕ) : Type 0 where
    pub sound : IsSound (map slab_entry drawers) len next
    pub fits : length drawers ≤ 2 ^ 32 - 1
