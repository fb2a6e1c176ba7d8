use Rattle.std.proofs.Common.{◌≡◌, ℕ, [], drop, length}
use Rattle.engine_reference.specs.Runs.{all_applied}
use Rattle.engine_reference.specs.State.{Answers}
use Rattle.engine_cells.specs.Stretches.{Stretch}
use Rattle.engine_runs.proofs.applying.apply_writes.Given as goal

abbrev pub invariant-loop-index : goal.invariant-loop-index
invariant-loop-index g l = record {
  stretch : (answers : Answers g.row.K.Denot g.row.V.Denot g.row.R-Predicate.Denot g.row.R.Denot) (moment : ℕ)
      → Stretch answers moment l.fn.tables.state (record l.tables.state { writes = drop l.index l.tables.state.writes });
  all : all_applied (record l.tables.state { writes = drop l.index l.tables.state.writes }) ≡ all_applied l.fn.tables.state;
  read : l.tables.state.reads ≡ [];
  end : length l.tables.state.writes ≡ l.index-end;
}
