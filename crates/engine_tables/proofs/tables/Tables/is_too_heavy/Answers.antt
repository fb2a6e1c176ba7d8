use Rattle.std.proofs.Common.{refl}
use Rattle.engine_cells.proofs.Totals.{weight-is}
use Rattle.engine_tables.proofs.tables.Tables.is_too_heavy.Goals as goal

pub returns-in-Some : goal.returns-in-Some
returns-in-Some g c = rw (← c.self.view_is, ← c.settings.ensures, c.in-Some.is, weight-is c.self.inside.cells.slots c.self.inside.tally c.self.invariant.tallied) refl
