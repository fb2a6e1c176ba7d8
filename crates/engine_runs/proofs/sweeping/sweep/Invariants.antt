use Rattle.std.proofs.Common.{length}
use Rattle.engine_reference.specs.Runs.{IsApplied}
use Rattle.engine_reference.specs.State.{Answers}
use Rattle.engine_cells.specs.Stretches.{Stretch}
use Rattle.engine_runs.specs.Fronts.{HidesNone}
use Rattle.engine_runs.specs.Stretches.{KeepsRest}
use Rattle.engine_runs.proofs.sweeping.sweep.Given as goal

abbrev pub invariant-loop-place : goal.invariant-loop-place
invariant-loop-place g l = record {
  stretch : (answers : Answers g.row.K.Denot g.row.V.Denot g.row.R-Predicate.Denot g.row.R.Denot) → Stretch answers l.now l.fn.tables.state l.tables.state;
  applied : IsApplied l.tables.state;
  rest : KeepsRest l.fn.tables.state l.tables.state;
  hides : HidesNone l.tables.state;
}

-- each turn takes a record away
abbrev pub decreases-loop-place : goal.decreases-loop-place
decreases-loop-place g l = length l.tables.state.records
