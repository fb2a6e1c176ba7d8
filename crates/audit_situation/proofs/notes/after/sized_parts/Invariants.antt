use Rattle.std.proofs.Common.{◌≡◌, ℕ, take, option_map}
use Rattle.audit_model.specs.Notes.{tells_size}
use Rattle.audit_situation.specs.Notes.After.{values_to_tell, is_among}
use Rattle.audit_situation.proofs.notes.after.sized_parts.Given as goal

abbrev pub invariant-loop-note : goal.invariant-loop-note
invariant-loop-note l = (part : ℕ) → is_among l.parts.items part ≡ tells_size part (values_to_tell l.held (option_map (λ h. h.now) l.newcomer)) (take l.note-index l.notes)
