use Rattle.std.proofs.Common.{◌≡◌, ℕ, length}
use Rattle.engine_reference.specs.Runs.{IsApplied}
use Rattle.engine_reference.specs.State.{Answers}
use Rattle.engine_cells.specs.Stretches.{Stretch}
use Rattle.engine_runs.specs.Stretches.{KeepsRest}
use Rattle.engine_runs.specs.Covered.{IsScanned}
use Rattle.engine_runs.proofs.covered.scan.Given as goal

abbrev pub invariant-loop-place : goal.invariant-loop-place
invariant-loop-place g l = record {
  stretch : (answers : Answers g.row.K.Denot g.row.V.Denot g.row.R-Predicate.Denot g.row.R.Denot) (now : ℕ) → answers.covers ≡ g.R.Rules.answers.covers → Stretch answers now l.fn.tables.state l.tables.state;
  applied : IsApplied l.tables.state;
  rest : KeepsRest l.fn.tables.state l.tables.state;
  scanned : (answers : Answers g.row.K.Denot g.row.V.Denot g.row.R-Predicate.Denot g.row.R.Denot) → answers.covers ≡ g.R.Rules.answers.covers → IsScanned answers l.place l.tables;
  places : length l.tables.numbers ≡ length l.fn.tables.numbers;
}
