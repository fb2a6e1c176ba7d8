use Rattle.std.proofs.Common.{refl}
use Rattle.engine_cells.proofs.Totals.{held-is}
use Rattle.engine_tables.proofs.tables.Tables.held_weight.Goals as goal

pub returns : goal.returns
returns g c = rw (← c.self.view_is, held-is c.self.inside.cells.slots c.self.inside.tally c.self.invariant.tallied) refl
