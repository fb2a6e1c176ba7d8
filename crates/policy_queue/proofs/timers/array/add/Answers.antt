use Rattle.std.proofs.Common.{rules, ◌≡◌, sym, ap, ◌∙◌, subst}
use Rattle.slab.specs.Slab.{get}
use Rattle.policy_queue.specs.Timers.Array.{IsArranged, LacksSerial}
use Rattle.policy_queue.specs.Timers.Places.{taken, timer_at}
use Rattle.policy_queue.proofs.timers.Arrays.{IsArranged-added, lacks_key}
use Rattle.policy_queue.proofs.timers.array.add.Goals as goal

pub put-requires-clause-new : goal.put-requires-clause-new
put-requires-clause-new c = lacks_key (taken c.args.row.now.places) c.args.place.placed c.args.place.serial c.requires.arranged.apart (search rules) c.requires.new.1

pub returns-clause-arranged : goal.returns-clause-arranged
returns-clause-arranged c =
    let s = c.args.slots.now in
    let s' = c.insert_reserved-slot.new.self in
    let h = c.put.ensures.comes in
    let slot : c.insert_reserved-slot.result ≡ c.args.place.slot = c.insert_reserved-slot.ensures.key ∙ sym c.requires.slot.0 in
    let added = IsArranged-added h.before h.after s s' (timer_at c.args.place) (subst (λ ts. IsArranged ts s) h.was c.requires.arranged) (search rules) (subst (λ ts. LacksSerial c.args.place.serial ts) h.was c.requires.new.1)
    (ap (get s) (sym slot) ∙ c.insert_reserved-slot.ensures.was_vacant) (rw (← slot) c.insert_reserved-slot.ensures.updates) c.insert_reserved-slot.ensures.len in
    subst (λ ts. IsArranged ts s') (sym h.is) added
