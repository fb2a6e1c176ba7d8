use Rattle.std.proofs.Common.{ℕ, ◌+◌, ◌<◌, ◌≤◌}
use Rattle.engine_cells.specs.Keys.Spots.{IsUnder}
use Rattle.engine_tests.proofs.cells.keys.found_in_room.Given as goal

abbrev pub invariant-loop-place : goal.invariant-loop-place
invariant-loop-place l = record {
  below : (h p : ℕ) → IsUnder l.keys h p → p < l.place;
  room : l.many ≤ l.keys.space + l.place;
}
