use Rattle.std.proofs.Common.{◌≤◌}
use Rattle.engine_tests.proofs.cells.keys.count_found.Given as goal

abbrev pub invariant-loop-place : goal.invariant-loop-place
invariant-loop-place l = l.count ≤ l.place-counter
