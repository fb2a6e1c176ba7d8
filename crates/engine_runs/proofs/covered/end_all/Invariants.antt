use Rattle.std.proofs.Common.{◌≡◌, ℕ, length}
use Rattle.engine_reference.specs.Runs.{IsApplied}
use Rattle.engine_reference.specs.State.{Answers}
use Rattle.engine_cells.specs.Stretches.{Stretch}
use Rattle.engine_runs.specs.Covered.{CoverNone}
use Rattle.engine_runs.proofs.covered.end_all.Given as goal

abbrev pub invariant-loop-tables : goal.invariant-loop-tables
invariant-loop-tables g l = record {
  stretch : (answers : Answers g.row.K.Denot g.row.V.Denot g.row.R-Predicate.Denot g.row.R.Denot) (now : ℕ) → answers.covers ≡ g.R.Rules.answers.covers → Stretch answers now l.fn.tables.state l.tables.state;
  applied : IsApplied l.tables.state;
  none : (answers : Answers g.row.K.Denot g.row.V.Denot g.row.R-Predicate.Denot g.row.R.Denot) → answers.covers ≡ g.R.Rules.answers.covers → CoverNone answers l.tables.state;
  sketch : l.tables.state.sketch ≡ l.fn.tables.state.sketch;
}

-- each turn takes a predicate away
abbrev pub decreases-loop-tables : goal.decreases-loop-tables
decreases-loop-tables g l = length l.tables.state.predicates
