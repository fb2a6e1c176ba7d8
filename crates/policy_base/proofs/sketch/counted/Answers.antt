use Rattle.std.proofs.Common.{◌/◌, ℕ, List, ap, ap₂, ◌∙◌, arith, length}
use Rattle.std.proofs.lemmas.Nat.{pow_pos}
use Rattle.policy_base.specs.Counts.{Sketch, sketch_of, counts_of}
use Rattle.policy_base.proofs.Steps.{young, old}
use Rattle.policy_base.proofs.sketch.counted.Goals as goal
use Rattle.policy_base.proofs.sketch.counted.Goals.{then-grew, else-grew}

pub returns-then-more-sample-clause-sketch : goal.returns-then-more-sample-clause-sketch
returns-then-more-sample-clause-sketch c =
    ap (λ z. sketch_of z c.bump_all-grew.new.table c.if-grew.more c.args.sample) c.bump_all-grew.ensures.len
    ∙ young (length c.args.table.now) (counts_of c.args.table.now) (counts_of c.bump_all-grew.new.table) c.args.size c.if-grew.more c.args.sample c.args.hash c.bump_all-grew.result (let power = c.requires.power in let pos = pow_pos power.0 in omega arith) c.bump_all-grew.ensures.counts c.bump_all-grew.ensures.grew
    (elim c.if-grew.branch [ then-grew w ↦ rw (w.if-grew.true) w.more-is | else-grew w ↦ rw (w.if-grew.false) (omega (arith, w.more-is)) ]) c.if-more-sample.true

pub returns-clause-sketch : goal.returns-clause-sketch
returns-clause-sketch c =
    ap₂ (λ (z : ℕ) (t : List ℕ). let s : Sketch = record { words = z; counts = t; size = c.if-grew.more / 2; sample = c.args.sample } in s) (c.halve_all.auto.table ∙ c.bump_all-grew.ensures.len) c.halve_all.ensures
    ∙ old (length c.args.table.now) (counts_of c.args.table.now) (counts_of c.bump_all-grew.new.table) c.args.size c.if-grew.more c.args.sample c.args.hash c.bump_all-grew.result (let power = c.requires.power in let pos = pow_pos power.0 in omega arith) c.bump_all-grew.ensures.counts c.bump_all-grew.ensures.grew
    (elim c.if-grew.branch [ then-grew w ↦ rw (w.if-grew.true) w.more-is | else-grew w ↦ rw (w.if-grew.false) (omega (arith, w.more-is)) ]) c.if-more-sample.false
