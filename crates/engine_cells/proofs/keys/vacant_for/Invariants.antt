use Rattle.std.proofs.Common.{◌≡◌, ℕ, ◌<◌}
use Rattle.engine_cells.specs.Keys.Slots.{HoldsPlace, steps_on}
use Rattle.engine_cells.proofs.keys.vacant_for.Given as goal

abbrev pub invariant-loop-steps : goal.invariant-loop-steps
invariant-loop-steps l = record {
  at : l.at ≡ steps_on l.many l.home l._steps;
  seen : (t : ℕ) → t < l._steps → HoldsPlace l.slots.items (steps_on l.many l.home t);
}
