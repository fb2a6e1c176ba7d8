use Rattle.std.proofs.Common.{ap, ◌∙◌, refl, get_or, false}
use Rattle.audit_situation.specs.Notes.Deeds.{deed_with}
use Rattle.std.specs.Option.{option_map}
use Rattle.audit_situation.proofs.notes.after.judge_notes.Goals as goal

pub are_true_notes-right-requires-clause-before : goal.are_true_notes-right-requires-clause-before
are_true_notes-right-requires-clause-before c part lt =
    ap (λ ms. get_or ms part false) c.as_slice.ensures.value
    ∙ c.in_ok-marks.ensures c.args.now (deed_with c.args.deed (option_map (λ h. h.value) (option_map (λ h. h.now) c.args.newcomer))) refl part lt
