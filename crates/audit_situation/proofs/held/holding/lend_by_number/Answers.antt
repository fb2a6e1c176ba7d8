use Rattle.std.proofs.Common.{ℕ, List, subst, sym, ap, ◌∙◌}
use Rattle.audit_situation.specs.declared.held.held.Seen.{Seen}
use Rattle.audit_situation.specs.Held.Slots.{slot_of}
use Rattle.audit_situation.specs.Held.Holds.{held_by}
use Rattle.audit_situation.proofs.held.Lending.{Lending, lending-start, lending-more, lending-end}
use Rattle.audit_situation.proofs.held.holding.lend_by_number.Goals as goal

pub loop-key-init : goal.loop-key-init
loop-key-init c =
    let start = lending-start c.args.keys.now c.args.marks.now c.args.table.now c.iter-key-items.result c.iter-key-items.ensures.numbered c.iter-key-items.ensures.rest in
    subst (λ xs. Lending c.args.keys.now c.args.marks.now c.args.table.now xs c.new-lent.result.entries) (sym c.into_iter-key-iterator.ensures.into_iter_gives)
    (subst (λ (es : List (ℕ × Seen)). Lending c.args.keys.now c.args.marks.now c.args.table.now c.iter-key-items.result es) (sym c.new-lent.ensures.empty) start)

pub loop-key-preserved : goal.loop-key-preserved
loop-key-preserved c =
    lending-more c.args.keys.now c.args.marks.now c.args.table.now (c.in-Some.key.now, c.in-Some.kept.now) c.next.new.self c.loop-key.lent.entries c.insert.new.self.entries c.lend.result
    (c.lend.ensures ∙ ap (λ k. held_by c.args.keys.now c.args.marks.now (slot_of k c.in-Some.kept.now)) c.as_slice.ensures.value) c.in_ok-insert.ensures.entries
    (subst (λ xs. Lending c.args.keys.now c.args.marks.now c.args.table.now xs c.loop-key.lent.entries) c.in-Some.ensures.steps c.loop-key.invariant)

pub returns : goal.returns
returns c =
    lending-end c.args.keys.now c.args.marks.now c.args.table.now c.loop-key.lent.entries
    (subst (λ xs. Lending c.args.keys.now c.args.marks.now c.args.table.now xs c.loop-key.lent.entries) c.in-None.ensures.steps.0 c.loop-key.invariant)
