use Rattle.std.proofs.Common.{refl, sym, ◌∙◌}
use Rattle.std.proofs.lemmas.Option.{slice_get_read}
use Rattle.engine_pending.proofs.Dropped.{list_any-past, list_any-end, left_none, right_none}
use Rattle.engine_pending.proofs.covering.is_any_over.Goals.{else-step-p-via-then-step-p+else-is_covered, else-step-p-via-else-step-p}
use Rattle.engine_pending.proofs.covering.is_any_over.Goals as goal

pub loop-p-preserved : goal.loop-p-preserved
loop-p-preserved g c =
    let ps = c.args.predicates.now in
    let i = c.loop-p.p-index in
    let p = c.p-item.result in
    let there = slice_get_read ps _ i p refl c.loop-p-test.true c.p-item.is in
    elim c.else-step-p.branch [
      | else-step-p-via-then-step-p+else-is_covered w ↦ list_any-past _ ps i p c.loop-p.invariant there (right_none _ _ (sym w.is_covered.ensures ∙ w.if-is_covered.false))
      | else-step-p-via-else-step-p w ↦ list_any-past _ ps i p c.loop-p.invariant there (left_none c.args.step p.step _ w.if-step-p.false)
    ]

pub returns : goal.returns
returns g c = list_any-end _ c.args.predicates.now c.loop-p.p-index c.loop-p-test.false c.loop-p.invariant
