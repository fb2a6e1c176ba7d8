use Rattle.std.proofs.Common.{refl, sym, ap, ◌∙◌, map}
use Rattle.audit_situation.specs.Held.Slots.{slots_of, oldest_first, slot_used_at}
use Rattle.audit_situation.proofs.held.Listing.{used_is, unused_is, keys-set, stamps-set}
use Rattle.audit_situation.proofs.held.table.Table.use_at.Goals as goal
use Rattle.audit_situation.proofs.held.table.Table.use_at.Goals.{in-Some, in_default}

pub invariant_of-self-inside : goal.invariant_of-self-inside
invariant_of-self-inside c =
    let inside = c.self.inside in
    let es = inside.values.entries in
    let new = record c.in-Some.kept.now { last_use = c.args.now } in
    let held = c.get_mut.follows.holds new in
    (keys-set es (c.get_mut.follows.lender new).entries held.1 inside.apart, (rw held.0 (stamps-set c.args.key.now es c.in-Some.kept.now new (sym c.in-Some.ensures.value) refl inside.numbered), tt))

pub returns : goal.returns
returns c =
    elim c.match-get_mut.branch [
      | in-Some w ↦
          let es = c.self.inside.values.entries in
          rw w.self-inside-is
          (ap (λ fs. oldest_first (slots_of fs)) (c.get_mut.follows.holds (record w.in-Some.kept.now { last_use = c.args.now })).0
          ∙ used_is c.args.key.now c.args.now es w.in-Some.kept.now c.self.inside.apart (sym w.in-Some.ensures.value)
          ∙ ap (map (slot_used_at c.args.key.now c.args.now)) c.self.view_is)
      | in_default w ↦
          let es = c.self.inside.values.entries in
          rw w.self-inside-is
          (ap (λ (m : _). oldest_first (slots_of m.entries)) c.get_mut.follows.holds-at-none
          ∙ unused_is c.args.key.now c.args.now es (sym w.in_default.ensures.value) ∙ ap (map (slot_used_at c.args.key.now c.args.now)) c.self.view_is)
    ]
