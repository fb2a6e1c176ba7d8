use Rattle.std.proofs.Common.{◌≡◌, ap, sym, ◌∙◌, ◌<◌, ◌-◌, length, true≢false, arith}
use Rattle.engine_cells.specs.Keys.Slots.{nowhere, steps_on, steps_to}
use Rattle.engine_cells.proofs.keys.Around.{reaches, ahead}
use Rattle.engine_cells.proofs.keys.Tables.{taken-within, read}
use Rattle.engine_cells.proofs.keys.Moving.{moved-yes, moved-no, moved-end, moved-never}
use Rattle.engine_cells.proofs.keys.move_up.Goals.{then-is_on_way, else-is_on_way}
use Rattle.engine_cells.proofs.keys.move_up.Goals as goal

pub returns-then-slot-clause-apart : goal.returns-then-slot-clause-apart
returns-then-slot-clause-apart c =
    let old = c.args.slots.now.items in
    let now = c.loop-steps.slots.items in
    let f = taken-within old c.args.from c.requires.there in
    let many : c.len-many.result ≡ length old = omega (arith, c.len-many.ensures, c.args.slots.now.ok.0) in
    let on = c.next_slot-at.ensures c.args.from (c.loop-steps._steps - 1) (omega (arith, many, f)) (omega arith) c.loop-steps.invariant.at in
    let here = on ∙ ap (λ n. steps_on c.len-many.result c.args.from n) (omega arith) in
    let at = reaches c.len-many.result (length old) c.args.from c.loop-steps._steps c.next_slot-at.result many f (omega arith) here in
    let slot = read now c.next_slot-at.result (length old) c.index-slot.result.now (sym c.loop-steps.invariant.moved.holed.long) at.1 c.index-slot.ensures in
    moved-end old now c.args.from c.loop-steps.hole c.loop-steps._steps c.next_slot-at.result f c.loop-steps.invariant.moved at.0 at.1 (omega (arith, ap (λ s. s.place) slot))

pub loop-steps-preserved : goal.loop-steps-preserved
loop-steps-preserved c =
    let old = c.args.slots.now.items in
    let now = c.loop-steps.slots.items in
    let f = taken-within old c.args.from c.requires.there in
    let many : c.len-many.result ≡ length old = omega (arith, c.len-many.ensures, c.args.slots.now.ok.0) in
    let on = c.next_slot-at.ensures c.args.from (c.loop-steps._steps - 1) (omega (arith, many, f)) (omega arith) c.loop-steps.invariant.at in
    let here = on ∙ ap (λ n. steps_on c.len-many.result c.args.from n) (omega arith) in
    let at = reaches c.len-many.result (length old) c.args.from c.loop-steps._steps c.next_slot-at.result many f (omega arith) here in
    let slot = read now c.next_slot-at.result (length old) c.index-slot.result.now (sym c.loop-steps.invariant.moved.holed.long) at.1 c.index-slot.ensures in
    let place : c.index-slot.result.now.place < nowhere = omega arith in
    let was = c.loop-steps.invariant in
    let far = ahead (length old) c.args.from c.loop-steps.hole c.next_slot-at.result f was.moved.holed.within at.1 (omega (arith, at.0, was.moved.before)) in
    let way = c.is_on_way.ensures c.loop-steps.hole (omega (arith, many, was.moved.holed.within)) (ap (λ n. steps_to n c.loop-steps.hole c.next_slot-at.result) many ∙ omega (arith, far, at.0, was.gap)) in
    elim c.if-is_on_way.branch [
      | then-is_on_way w ↦ rw (w.slots-is, w.hole-is, w.gap-is) (record {
        moved = moved-yes old now c.args.from c.loop-steps.hole c.loop-steps._steps c.next_slot-at.result f was.moved at.0 at.1 c.index-slot.result.now c.len-many.result slot place many (way.0 w.if-is_on_way.true);
        at = on ∙ ap (λ n. steps_on c.len-many.result c.args.from n) (omega arith);
        gap = omega (arith, at.0);
      })
      | else-is_on_way w ↦ rw (w.slots-is, w.hole-is, w.gap-is) (record {
        moved = moved-no old now c.args.from c.loop-steps.hole c.loop-steps._steps c.next_slot-at.result f was.moved at.0 at.1 c.index-slot.result.now c.len-many.result slot place many (λ on. true≢false (sym (way.1 on) ∙ w.if-is_on_way.false));
        at = on ∙ ap (λ n. steps_on c.len-many.result c.args.from n) (omega arith);
        gap = omega (arith, was.gap);
      })
    ]

pub unreachable-requires : goal.unreachable-requires
unreachable-requires c =
    let many : c.len-many.result ≡ length c.args.slots.now.items = omega (arith, c.len-many.ensures, c.args.slots.now.ok.0) in
    moved-never c.args.slots.now.items c.loop-steps.slots.items c.args.from c.loop-steps.hole c.loop-steps._steps (taken-within _ _ c.requires.there) c.requires.loose (omega arith) c.loop-steps.invariant.moved
