use Rattle.std.proofs.Common.{ap, ◌∙◌, sym, Some}
use Rattle.std.specs.List.{find}
use Rattle.audit_model.specs.Bytewise.{same}
use Rattle.audit_model.specs.Notes.{is_true_note}
use Rattle.audit_model.specs.Situation.{candidate_at}
use Rattle.audit_model.specs.Values.{without_key}
use Rattle.audit_situation.specs.Notes.Scenes.{deed_in, newcomer_in, newcomer_left}
use Rattle.audit_situation.proofs.notes.Judging.{told-old, told-new, taken-old, taken-new, without-none}
use Rattle.audit_situation.proofs.notes.notes.is_true_of_first.Goals as goal

pub returns-in-Some-clause-right : goal.returns-in-Some-clause-right
returns-in-Some-clause-right c before h =
    let scene = c.args.scene.now in
    let held = c.args.held.now in
    let key = c.args.note.now.key in
    let found = ap (λ k. find (λ h. same k h.value.key) held) (sym c.as_slice.ensures) ∙ sym c.in-Some.ensures.found in
    c.is_true_note.ensures before h
    ∙ ap (is_true_note scene.config.now before (deed_in scene) c.args.note.now)
    (ap (λ x. Some (candidate_at scene.config.now scene.moment x)) c.see.ensures
    ∙ sym (told-old scene.config.now scene.moment key held (newcomer_left c.args.left.now (newcomer_in scene)) c.in-Some.told found))

pub returns-in-Some-clause-taken : goal.returns-in-Some-clause-taken
returns-in-Some-clause-taken c e =
    let held = c.args.held.now in
    let key = c.args.note.now.key in
    let found = ap (λ k. find (λ h. same k h.value.key) held) (sym c.as_slice.ensures) ∙ sym c.in-Some.ensures.found in
    taken-old c.args.scene.now key held c.args.left.now c.in-Some.told c.take.new.self found (c.take.ensures.rest ∙ ap (λ k. without_key (λ h. h.value.key) k held) c.as_slice.ensures)

pub returns-in-None-clause-right : goal.returns-in-None-clause-right
returns-in-None-clause-right c before h =
    let scene = c.args.scene.now in
    let held = c.args.held.now in
    let key = c.args.note.now.key in
    let found = ap (λ k. find (λ h. same k h.value.key) held) (sym c.as_slice.ensures) ∙ sym c.in-None.ensures.found in
    c.is_true_of_new.ensures.right before h
    ∙ ap (is_true_note scene.config.now before (deed_in scene) c.args.note.now) (sym (told-new scene.config.now scene.moment key held (newcomer_left c.args.left.now (newcomer_in scene)) found))

pub returns-in-None-clause-taken : goal.returns-in-None-clause-taken
returns-in-None-clause-taken c e =
    let held = c.args.held.now in
    let key = c.args.note.now.key in
    let found = ap (λ k. find (λ h. same k h.value.key) held) (sym c.as_slice.ensures) ∙ sym c.in-None.ensures.found in
    taken-new c.args.scene.now key held c.args.left.now c.is_true_of_new.new.left c.take.new.self found
    (c.take.ensures.rest ∙ ap (λ k. without_key (λ h. h.value.key) k held) c.as_slice.ensures ∙ without-none key held found)
    (c.is_true_of_new.ensures.taken e) (c.is_true_of_new.ensures.left e)
