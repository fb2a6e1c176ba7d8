use Rattle.std.proofs.Common.{sym, ap, ◌∙◌, nat_lt, option_map}
use Rattle.std.specs.List.{list_all, find}
use Rattle.audit_model.specs.Bytewise.{same}
use Rattle.audit_model.specs.Values.{without_key}
use Rattle.audit_situation.specs.Held.Slots.{slots_without}
use Rattle.audit_situation.specs.Held.Holds.{held_by}
use Rattle.audit_situation.proofs.held.Keeping.{small-view, find-held, without-held}
use Rattle.audit_situation.proofs.held.holding.Holding.len.Goals as goal

pub returns-clause-small : goal.returns-clause-small
returns-clause-small c =
    let inside = c.self.inside in
    ap (list_all (λ h. nat_lt h.value.part 256)) (sym c.self.view_is) ∙ small-view inside.next inside.open_keys inside.marks.items inside.table inside.keeps.sound

pub returns-clause-apart : goal.returns-clause-apart
returns-clause-apart c key =
    let inside = c.self.inside in
    ap (λ hs. find (λ h. same key h.value.key) (without_key (λ h. h.value.key) key hs)) (sym c.self.view_is)
    ∙ ap (find (λ h. same key h.value.key)) (without-held inside.open_keys inside.marks.items key inside.table)
    ∙ find-held inside.open_keys inside.marks.items key (slots_without key inside.table)
    ∙ ap (option_map (held_by inside.open_keys inside.marks.items)) (c.len.ensures.apart key)
