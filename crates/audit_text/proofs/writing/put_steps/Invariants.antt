use Rattle.std.proofs.Common.{◌≡◌, ◌≤◌, [], ◌∷◌, ◌++◌, length, take}
use Rattle.std.specs.Prelude.{codes}
use Rattle.std.specs.List.{flat_map}
use Rattle.audit_text.specs.Text.{step_text}
use Rattle.audit_text.proofs.writing.put_steps.Given as goal

abbrev pub invariant-loop-step : goal.invariant-loop-step
invariant-loop-step l = record { inside : l.step-index ≤ length l.steps; text : l.text.items ≡ l.fn.text.items ++ flat_map step_text (take l.step-index l.steps) }
