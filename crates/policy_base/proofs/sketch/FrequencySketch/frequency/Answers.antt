use Rattle.std.proofs.Common.{ℕ, List, eqb, length, arith, sym, ap, ◌∙◌}
use Rattle.std.proofs.lemmas.Bool.{cond-false, eqb-false}
use Rattle.policy_base.specs.Counts.{Sketch, sketch_of, frequency_of}
use Rattle.policy_base.proofs.Steps.{is_power}
use Rattle.policy_base.proofs.sketch.FrequencySketch.frequency.Goals as goal

pub least_count-requires : goal.least_count-requires
least_count-requires c =
    let t = c.self.inside.table in
    let some = eqb-false (length c.as_slice-table.result.now) 0 (sym c.is_empty.ensures ∙ c.if-is_empty.false) in
    is_power t.len t.items c.as_slice-table.result.now t.ok.0 c.as_slice-table.ensures.value c.self.invariant.2 (omega arith)

pub returns-clause-least : goal.returns-clause-least
returns-clause-least c =
    let t = c.self.inside.table in
    let ws : List ℕ = c.as_slice-table.result.now in
    let seen : ℕ → List ℕ → Sketch = λ z items. sketch_of z items c.self.inside.size c.self.inside.sample in
    let h : ℕ = c.args.hash in
    rw (← c.self.view_is) (
    c.least_count.ensures.least
    ∙ sym (cond-false (eqb (length ws) 0) _ _ (sym c.is_empty.ensures ∙ c.if-is_empty.false))
    ∙ ap (λ items. frequency_of (seen (length items) items) h) c.as_slice-table.ensures.value
    ∙ ap (λ z. frequency_of (seen z t.items) h) (sym t.ok.0))
