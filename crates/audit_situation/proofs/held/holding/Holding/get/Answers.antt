use Rattle.std.proofs.Common.{sym, ap, ◌∙◌, option_map, Some}
use Rattle.std.specs.List.{find}
use Rattle.audit_model.specs.Bytewise.{same}
use Rattle.audit_situation.specs.Held.Slots.{slot_of}
use Rattle.audit_situation.specs.Held.Holds.{held_by}
use Rattle.audit_situation.proofs.held.Keeping.{find-held}
use Rattle.audit_situation.proofs.held.holding.Holding.get.Goals as goal

pub returns-in-Some : goal.returns-in-Some
returns-in-Some c =
    let inside = c.self.inside in
    ap Some (c.lend.ensures ∙ ap (λ ms. held_by inside.open_keys ms (slot_of c.args.key.now c.in-Some.kept.now)) c.deref.ensures.value)
    ∙ ap (option_map (held_by inside.open_keys inside.marks.items)) c.in-Some.ensures
    ∙ sym (find-held inside.open_keys inside.marks.items c.args.key.now inside.table) ∙ ap (find (λ h. same c.args.key.now h.value.key)) c.self.view_is

pub returns-in-None : goal.returns-in-None
returns-in-None c =
    let inside = c.self.inside in
    ap (option_map (held_by inside.open_keys inside.marks.items)) c.in-None.ensures
    ∙ sym (find-held inside.open_keys inside.marks.items c.args.key.now inside.table) ∙ ap (find (λ h. same c.args.key.now h.value.key)) c.self.view_is
