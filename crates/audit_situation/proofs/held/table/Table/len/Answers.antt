use Rattle.std.proofs.Common.{length, sym, ap, ◌∙◌}
use Rattle.audit_situation.specs.Held.Slots.{slot_of_key, slots_without}
use Rattle.audit_situation.proofs.held.Listing.{length-slots, gone}
use Rattle.audit_situation.proofs.held.table.Table.len.Goals as goal

pub returns-clause-number : goal.returns-clause-number
returns-clause-number c = c.len.ensures.len ∙ sym (length-slots c.self.inside.values.entries) ∙ ap length c.self.view_is

pub returns-clause-apart : goal.returns-clause-apart
returns-clause-apart c key = ap (λ xs. slot_of_key key (slots_without key xs)) (sym c.self.view_is) ∙ gone key c.self.inside.values.entries c.self.inside.apart c.self.inside.numbered
