use Rattle.std.proofs.Common.{arith, ◌≡◌, ap, ◌∙◌, sym, ◌&&◌, is_none}
use Rattle.std.proofs.lemmas.Bool.{not-false}
use Rattle.audit_model.specs.Bytewise.{same}
use Rattle.audit_model.specs.Notes.{same_cause}
use Rattle.audit_situation.specs.Notes.Scenes.{deed_in, candidate_in}
use Rattle.audit_situation.proofs.notes.Judging.{first-true, none-map}
use Rattle.audit_situation.proofs.notes.notes.is_true_note.Goals as goal

pub returns-then-is_none : goal.returns-then-is_none
returns-then-is_none c before h =
    let scene = c.args.scene.now in
    let unused : is_none scene.deed.uses ≡ c.is_none.result = grind (arith, c.is_none.ensures) in
    c.same_cause.ensures ∙ ap (same_cause c.args.note.now.cause) (c.first_cause.ensures before h)
    ∙ first-true scene.config.now before (deed_in scene) c.args.note.now (candidate_in scene c.args.c)
    (ap (λ v. same v c.args.c.seen.bytes.now) (sym c.as_slice.ensures) ∙ not-false _ (sym c.ne.ensures ∙ c.if-ne.false))
    (ap (λ b. b && is_none (deed_in scene).uses) (sym c.is_succeeded.ensures ∙ c.if-is_succeeded.true) ∙ sym (none-map (λ k. k.now) scene.deed.uses) ∙ unused ∙ c.if-is_none.true)
