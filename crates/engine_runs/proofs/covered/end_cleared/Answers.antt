use Rattle.std.proofs.Common.{refl, sym, subst}
use Rattle.engine_reference.specs.State.{Answers}
use Rattle.engine_cells.specs.Swept.{NoneIsCleared}
use Rattle.engine_runs.proofs.Covering.{none-cleared}
use Rattle.engine_runs.proofs.covered.end_cleared.Goals as goal

pub note_swept-requires : goal.note_swept-requires
note_swept-requires g c =
    let a : Answers g.row.K.Denot g.row.V.Denot g.row.R-Predicate.Denot g.row.R.Denot = g.R.Rules.answers in
    none-cleared a c.scan.new.tables.state (c.scan.ensures.none a refl)

pub returns-then-hides_cleared-clause-hides : goal.returns-then-hides_cleared-clause-hides
returns-then-hides_cleared-clause-hides g c = λ live.
    let a : Answers g.row.K.Denot g.row.V.Denot g.row.R-Predicate.Denot g.row.R.Denot = g.R.Rules.answers in
    subst (λ t. NoneIsCleared t.state) (sym c.note_swept.ensures) (none-cleared a c.scan.new.tables.state (c.scan.ensures.none a refl))
