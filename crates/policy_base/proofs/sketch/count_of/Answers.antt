use Rattle.std.proofs.Common.{◌<◌, ◌+◌, ◌*◌, ◌%◌, ℕ, sym, ap, ◌∙◌, arith, get_or}
use Rattle.policy_base.specs.Counts.{counts_of}
use Rattle.policy_base.proofs.Nibbles.{get_or-counts}
use Rattle.policy_base.proofs.sketch.count_of.Goals as goal

pub returns-clause-count : goal.returns-clause-count
returns-clause-count c =
    let k : ℕ = 4 * (c.args.hash % 4) + c.args.i in
    let small : k < 16 = omega arith in
    c.count_at.ensures.count ∙ sym (get_or-counts c.args.table.now c.word_of-at.result k c.word_of-at.ensures.within small) ∙ ap (λ w. get_or (counts_of c.args.table.now) (16 * w + k) 0) c.word_of-at.ensures.word
