use Rattle.std.proofs.Common.{ap, ◌∙◌, sym, Some, None, option_map, cond}
use Rattle.std.specs.List.{find}
use Rattle.std.specs.Option.{option_to_list}
use Rattle.audit_model.specs.Bytewise.{same}
use Rattle.audit_situation.specs.Held.Seeing.{held_of}
use Rattle.audit_situation.specs.Notes.After.{values_to_tell}
use Rattle.audit_situation.proofs.notes.Passing.{size-old, size-new}
use Rattle.audit_situation.proofs.notes.after.sized_part.Goals as goal

pub returns-in-Some : goal.returns-in-Some
returns-in-Some c =
    let newcomer = option_map (λ h. h.now) c.args.newcomer in
    let values = values_to_tell c.args.held.now newcomer in
    ap Some c.part_of.ensures
    ∙ sym (ap (λ b. cond b (option_map (λ v. v.part) (find (λ v. same c.args.note.now.key v.key) values)) None) (sym c.same_cause.ensures ∙ c.if-not-same_cause.false)
    ∙ ap (λ k. option_map (λ v. v.part) (find (λ v. same k v.key) values)) (sym c.as_slice.ensures)
    ∙ size-old c.as_slice.result.now c.args.held.now newcomer (held_of c.in-Some.seen) (sym c.in-Some.ensures))

pub returns-in-None : goal.returns-in-None
returns-in-None c =
    let newcomer = option_map (λ h. h.now) c.args.newcomer in
    let values = values_to_tell c.args.held.now newcomer in
    c.new_part.ensures
    ∙ ap (λ k. option_map (λ h. h.value.part) (find (λ h. same k h.value.key) (option_to_list newcomer))) (c.as_slice-in-None.ensures ∙ sym c.as_slice.ensures)
    ∙ sym (ap (λ b. cond b (option_map (λ v. v.part) (find (λ v. same c.args.note.now.key v.key) values)) None) (sym c.same_cause.ensures ∙ c.if-not-same_cause.false)
    ∙ ap (λ k. option_map (λ v. v.part) (find (λ v. same k v.key) values)) (sym c.as_slice.ensures)
    ∙ size-new c.as_slice.result.now c.args.held.now newcomer (sym c.in-None.ensures))
