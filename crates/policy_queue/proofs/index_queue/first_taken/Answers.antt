use Rattle.std.proofs.Common.{◌<◌, ap, ◌∙◌, get_or, length, inl, inr, arith}
use Rattle.std.proofs.lemmas.Bool.{cases_eq}
use Rattle.std.proofs.lemmas.List.{get_or_default}
use Rattle.policy_queue.specs.Indices.{vacant}
use Rattle.policy_queue.proofs.index_queue.first_taken.Goals as goal

pub loop-k-preserved : goal.loop-k-preserved
loop-k-preserved c =
    let lt : c.loop-k.k < length c.args.places.now = omega arith in
    λ j low high. elim (cases_eq j c.loop-k.k) [
      | inl e ↦ ap (λ i. get_or c.args.places.now i vacant) e ∙ get_or_default c.args.places.now c.loop-k.k vacant 0 lt ∙ c.if-places-k.false
      | inr d ↦ c.loop-k.invariant j low (omega arith)
    ]
