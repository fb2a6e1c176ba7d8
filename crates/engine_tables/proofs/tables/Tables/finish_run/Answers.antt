use Rattle.std.proofs.Common.{◌≡◌, refl, arith}
use Rattle.std.specs.Prelude.{min}
use Rattle.engine_cells.proofs.Totals.{weight-is, number-is, tally-fits}
use Rattle.engine_tables.proofs.tables.Tables.finish_run.Goals as goal

pub returns : goal.returns
returns g c =
    let tally = c.self.inside.tally in
    let fits = (tally-fits c.self.inside.cells.slots tally c.self.invariant.tallied (omega (arith, c.capacity-many.ensures.holds_all, c.capacity-many.ensures.fits))).weight in
    let most : min tally.weight 18446744073709551615 ≡ tally.weight = omega (arith, fits) in
    rw (← c.self.view_is, number-is c.self.inside.cells.slots tally c.self.invariant.tallied, weight-is c.self.inside.cells.slots tally c.self.invariant.tallied, most, c.finish_run.ensures) refl
