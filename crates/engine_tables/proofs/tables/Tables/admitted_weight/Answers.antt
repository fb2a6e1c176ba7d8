use Rattle.std.proofs.Common.{refl, arith}
use Rattle.engine_cells.proofs.Totals.{weight-is, tally-fits}
use Rattle.engine_tables.proofs.tables.Tables.admitted_weight.Goals as goal

pub returns-clause-is : goal.returns-clause-is
returns-clause-is g c = rw (← c.self.view_is, weight-is c.self.inside.cells.slots c.self.inside.tally c.self.invariant.tallied) refl

pub returns-clause-light : goal.returns-clause-light
returns-clause-light g c = (tally-fits c.self.inside.cells.slots c.self.inside.tally c.self.invariant.tallied (omega (arith, c.capacity-many.ensures.holds_all, c.capacity-many.ensures.fits))).weight
