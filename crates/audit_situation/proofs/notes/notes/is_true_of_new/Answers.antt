use Rattle.std.proofs.Common.{ap, ◌∙◌, sym, Some, option_map}
use Rattle.std.proofs.lemmas.Bool.{not-false}
use Rattle.audit_model.specs.Bytewise.{same}
use Rattle.audit_model.specs.Notes.{is_true_note}
use Rattle.audit_situation.specs.Notes.Scenes.{deed_in, newcomer_in, new_candidate_at}
use Rattle.audit_situation.proofs.notes.Judging.{new-found}
use Rattle.audit_situation.proofs.notes.notes.is_true_of_new.Goals as goal

pub returns-else-ne-clause-right : goal.returns-else-ne-clause-right
returns-else-ne-clause-right c before h =
    let scene = c.args.scene.now in
    c.is_true_note.ensures before h
    ∙ ap (is_true_note scene.config.now before (deed_in scene) c.args.note.now)
    (ap (λ x. Some (new_candidate_at scene.config.now scene.moment x)) c.see.ensures
    ∙ new-found scene.config.now scene.moment c.args.note.now.key c.args.left.now (newcomer_in scene) c.in-Some.newcomer.now (ap (option_map (λ h. h.now)) c.in-Some.is) c.if-not-left.false
    (ap (λ k. same k c.in-Some.newcomer.now.value.key) (sym c.as_slice.ensures) ∙ ap (same c.as_slice.result.now) (sym c.key.ensures) ∙ not-false _ (sym c.ne.ensures ∙ c.if-ne.false)))
