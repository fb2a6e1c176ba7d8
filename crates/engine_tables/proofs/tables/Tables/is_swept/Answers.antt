use Rattle.std.proofs.Common.{arith}
use Rattle.std.proofs.lemmas.Bool.{leb-true}
use Rattle.engine_cells.proofs.Sweeps.{since-records}
use Rattle.engine_tables.proofs.tables.Tables.is_swept.Goals as goal

pub returns : goal.returns
returns g c =
    rw (← c.self.view_is)
    (λ late r there held. let since = since-records c.self.inside.since c.self.inside.cells.slots c.self.invariant.kept.apart c.self.invariant.since r there held in omega (arith, since, c.cleared.ensures, leb-true _ _ late))
