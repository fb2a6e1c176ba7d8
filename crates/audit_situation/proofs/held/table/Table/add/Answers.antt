use Rattle.std.proofs.Common.{◌++◌, ◌∷◌, [], ap, ◌∙◌, nat_lt}
use Rattle.std.specs.List.{list_all}
use Rattle.audit_situation.specs.Held.Slots.{slots_of, oldest_first, slot_of, slot_of_key, HeldSlot}
use Rattle.audit_situation.proofs.held.Listing.{inserted, added_is, after-insert}
use Rattle.audit_situation.proofs.held.table.Table.add.Goals as goal

pub invariant_of-self-inside : goal.invariant_of-self-inside
invariant_of-self-inside c =
    let inside = c.self.inside in
    let absent = ap (slot_of_key c.args.key.items) c.self.view_is ∙ c.requires.absent in
    let newest = ap (list_all (λ (s : HeldSlot). nat_lt s.stamp c.args.kept.stamp)) c.self.view_is ∙ c.requires.newest in
    let s = after-insert inside.values.entries c.args.key c.args.kept c.insert.new.self.entries c.insert.result inside.apart inside.numbered absent newest c.insert.ensures.entries c.insert.ensures.err in
    (s.0, (s.1, tt))

pub returns-clause-added : goal.returns-clause-added
returns-clause-added c =
    let inside = c.self.inside in
    let absent = ap (slot_of_key c.args.key.items) c.self.view_is ∙ c.requires.absent in
    let newest = ap (list_all (λ (s : HeldSlot). nat_lt s.stamp c.args.kept.stamp)) c.self.view_is ∙ c.requires.newest in
    ap (λ es. oldest_first (slots_of es)) (c.in_ok-insert.ensures.entries ∙ inserted inside.values.entries c.args.key c.args.kept absent)
    ∙ added_is inside.values.entries c.args.key c.args.kept newest ∙ ap (λ xs. xs ++ slot_of c.args.key.items c.args.kept ∷ []) c.self.view_is
