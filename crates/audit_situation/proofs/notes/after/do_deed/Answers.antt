use Rattle.std.proofs.Common.{ap, ◌∙◌, sym, subst, option_map, refl}
use Rattle.audit_model.specs.Notes.{tells_size}
use Rattle.audit_situation.specs.Notes.After.{AreSized, values_to_tell}
use Rattle.audit_situation.specs.Notes.Deeds.{deed_with}
use Rattle.audit_situation.proofs.notes.Passing.{copied-held, values-all}
use Rattle.audit_situation.proofs.notes.after.do_deed.Goals as goal

pub do_sized-requires-clause-sized : goal.do_sized-requires-clause-sized
do_sized-requires-clause-sized c =
    let config = c.args.config.now in
    let now = c.args.now in
    let held = c.args.held.now in
    let notes = c.args.notes.now in
    let n = c.args.newcomer in
    let deed = deed_with c.args.deed.now (option_map (λ h. h.value) n) in
    let first = copied-held c.as_ref.result ∙ c.as_ref.ensures.value in
    subst (AreSized config now held deed notes) (sym c.deref.ensures.value)
    (λ part. c.in_ok-sized.ensures part ∙ ap (λ o. tells_size part (values_to_tell held o) notes) first ∙ ap (λ vs. tells_size part vs notes) (values-all config now held deed n refl c.requires.new))
