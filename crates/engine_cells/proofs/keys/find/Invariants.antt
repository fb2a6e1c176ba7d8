use Rattle.std.proofs.Common.{◌≡◌, ℕ, ◌<◌, false}
use Rattle.engine_cells.specs.Keys.Slots.{HoldsPlace, slot_at, steps_on}
use Rattle.engine_cells.proofs.keys.find.Given as goal

abbrev pub invariant-loop-steps : goal.invariant-loop-steps
invariant-loop-steps g l = record {
  at : l.at ≡ steps_on l.many l.home l._steps;
  seen : (t : ℕ) → t < l._steps → HoldsPlace l.slots.items (steps_on l.many l.home t) × ((slot_at l.slots.items (steps_on l.many l.home t)).tag ≡ l.tag → goal.F-post g l.is_sought (slot_at l.slots.items (steps_on l.many l.home t)).place false);
}
