use Rattle.std.proofs.Common.{ap, ◌∙◌}
use Rattle.audit_situation.specs.Held.Slots.{slot_of_key, slots_without}
use Rattle.audit_situation.proofs.held.Listing.{taken_is, left_is, keys-out, stamps-out}
use Rattle.audit_situation.proofs.held.table.Table.take.Goals as goal

pub invariant_of-self-inside : goal.invariant_of-self-inside
invariant_of-self-inside c =
    let inside = c.self.inside in
    rw c.swap_remove_entry.ensures.entries (keys-out c.args.key.now inside.values.entries inside.apart, (stamps-out c.args.key.now inside.values.entries inside.numbered, tt))

pub returns-clause-found : goal.returns-clause-found
returns-clause-found c =
    taken_is c.args.key.now c.self.inside.values.entries c.swap_remove_entry.result c.self.inside.apart c.swap_remove_entry.ensures.key c.swap_remove_entry.ensures.value ∙ ap (slot_of_key c.args.key.now) c.self.view_is

pub returns-clause-rest : goal.returns-clause-rest
returns-clause-rest c =
    let inside = c.self.inside in
    rw c.swap_remove_entry.ensures.entries (left_is c.args.key.now inside.values.entries inside.apart inside.numbered ∙ ap (slots_without c.args.key.now) c.self.view_is)
