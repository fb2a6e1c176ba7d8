use Rattle.std.proofs.Common.{ap, ◌∙◌, sym, map, ◌++◌, ◌≡◌, option_map}
use Rattle.std.specs.Option.{option_to_list}
use Rattle.audit_model.specs.Changes.{left_held}
use Rattle.audit_model.specs.Values.{untold}
use Rattle.audit_situation.specs.Held.Weights.{values_of}
use Rattle.audit_situation.specs.Notes.After.{passed_on_by}
use Rattle.audit_situation.specs.Notes.Deeds.{deed_with}
use Rattle.audit_situation.specs.Notes.Scenes.{newcomer_left}
use Rattle.audit_situation.proofs.notes.Passing.{all-passed, new-list, copied-held}
use Rattle.audit_situation.proofs.notes.after.do_sized.Goals as goal

pub returns-clause-left : goal.returns-clause-left
returns-clause-left c e =
    let config = c.args.config.now in
    let now = c.args.now in
    let held = c.args.held.now in
    let notes = c.args.notes.now in
    let n = c.args.newcomer in
    let value = option_map (λ h. h.value) n in
    let deed = deed_with c.args.deed.now value in
    let lent = copied-held c.as_ref.result ∙ c.as_ref.ensures.value in
    let left : c.add.new.held ≡ left_held held deed notes =
    c.in_ok-add.ensures ∙ ap (λ o. c.judge_notes.new.held ++ newcomer_left c.in_ok-right.left o) (sym lent) ∙ c.in_ok-right.ensures.all c.if-not-right.false
    ∙ ap (λ o. untold (λ h. h.value.key) notes (held ++ option_to_list o)) lent
    ∙ ap (λ hs. untold (λ h. h.value.key) notes (held ++ hs)) (new-list now n c.requires.new) in
    c.in_ok-pass_on.ensures value
    ∙ ap (λ hs. map (passed_on_by config now deed c.args.sized.now (values_of hs)) hs) left
    ∙ all-passed config now held deed notes c.args.sized.now c.requires.sized
