-- How a slab ends if a `&mut` to one of its values is returned.
use Rattle.std.specs.Prelude.{ℕ}
use Rattle.std.specs.Borrow.{Lends, Fml, RattleType, MutBor}
use Rattle.slab.specs.Slab.{Slab, with_value}
use Rattle.engine_cells.specs.contracts.cell_slab.CellSlab.{the_row}

-- once the borrow ends, the key has the last value written through it
abbrev pub lends_value : (T : RattleType) → MutBor (Slab T.Denot) → ℕ → MutBor T.Denot → Fml
lends_value T s key r = Lends (the_row T) T s r (with_value s.now key)
