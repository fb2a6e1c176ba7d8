use Rattle.std.proofs.Common.{◌≡◌, ◌<◌, ℕ, get_or, length, nat_lt, Some, false}
use Rattle.audit_model.specs.Notes.{just_accepted}
use Rattle.audit_situation.specs.Held.Weights.{values_of, weight_of_part}
use Rattle.audit_situation.proofs.notes.weights.overfilled_by.Given as goal

abbrev pub invariant-loop-part : goal.invariant-loop-part
invariant-loop-part l = record {
  many : length l.marks.items ≡ l.part;
  each : (part : ℕ) → part < l.part → get_or l.marks.items part false ≡ nat_lt l.limit (weight_of_part part (just_accepted (values_of l.held) (Some l.newcomer.value)));
}
