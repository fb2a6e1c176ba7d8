use Rattle.std.proofs.Common.{refl}
use Rattle.engine_cells.proofs.Totals.{number-is}
use Rattle.engine_tables.proofs.tables.Tables.admitted_number.Goals as goal

pub returns : goal.returns
returns g c = rw (← c.self.view_is, number-is c.self.inside.cells.slots c.self.inside.tally c.self.invariant.tallied) refl
