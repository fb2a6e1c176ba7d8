use Rattle.std.proofs.Common.{◌≡◌, ◌+◌, ◌-◌, length}
use Rattle.engine_cells.specs.Keys.Slots.{steps_on, steps_to}
use Rattle.engine_cells.proofs.keys.Moving.{AreMoved}
use Rattle.engine_cells.proofs.keys.move_up.Given as goal

abbrev pub invariant-loop-steps : goal.invariant-loop-steps
invariant-loop-steps l = record {
  moved : AreMoved l.initial.slots.items l.slots.items l.from l.hole l._steps;
  at : l.at ≡ steps_on l.many l.from (l._steps - 1);
  gap : l.gap + steps_to (length l.initial.slots.items) l.from l.hole + 1 ≡ l._steps;
}
