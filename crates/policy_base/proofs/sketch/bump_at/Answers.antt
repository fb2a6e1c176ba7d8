use Rattle.std.proofs.Common.{◌<◌, ◌≤◌, ◌+◌, ◌*◌, ◌%◌, ℕ, ap, sym, ◌∙◌, arith, get_or, ltb}
use Rattle.policy_base.specs.Counts.{counts_of, bump, nibbles}
use Rattle.policy_base.proofs.Nibbles.{bump-yes, bump-no, get_or-counts}
use Rattle.policy_base.proofs.sketch.bump_at.Goals as goal

pub returns-then-grows-clause-counts : goal.returns-then-grows-clause-counts
returns-then-grows-clause-counts c =
    let at : ℕ = c.word_of-at.result in
    let k : ℕ = 4 * (c.args.hash % 4) + c.args.i in
    let small : k < 16 = omega arith in
    let below : get_or (nibbles 16 (get_or c.args.table.now at 0)) k 0 < 15 = omega (arith, c.count_at-grows.ensures.count) in
    bump-yes c.args.table.now at k c.word_of-at.ensures.within small c.with_one_more.result below c.with_one_more.ensures ∙ ap (λ w. bump (counts_of c.args.table.now) (16 * w + k)) c.word_of-at.ensures.word

pub returns-then-grows-clause-grew : goal.returns-then-grows-clause-grew
returns-then-grows-clause-grew c =
    let k : ℕ = 4 * (c.args.hash % 4) + c.args.i in
    ap (λ n. ltb n 15) (c.count_at-grows.ensures.count ∙ sym (get_or-counts c.args.table.now c.word_of-at.result k c.word_of-at.ensures.within (omega arith)) ∙ ap (λ w. get_or (counts_of c.args.table.now) (16 * w + k) 0) c.word_of-at.ensures.word)

pub returns-else-grows-clause-counts : goal.returns-else-grows-clause-counts
returns-else-grows-clause-counts c =
    let at : ℕ = c.word_of-at.result in
    let k : ℕ = 4 * (c.args.hash % 4) + c.args.i in
    let small : k < 16 = omega arith in
    let full : 15 ≤ get_or (nibbles 16 (get_or c.args.table.now at 0)) k 0 = omega (arith, c.count_at-grows.ensures.count) in
    bump-no c.args.table.now at k c.word_of-at.ensures.within small full ∙ ap (λ w. bump (counts_of c.args.table.now) (16 * w + k)) c.word_of-at.ensures.word

pub returns-else-grows-clause-grew : goal.returns-else-grows-clause-grew
returns-else-grows-clause-grew c =
    let k : ℕ = 4 * (c.args.hash % 4) + c.args.i in
    ap (λ n. ltb n 15) (c.count_at-grows.ensures.count ∙ sym (get_or-counts c.args.table.now c.word_of-at.result k c.word_of-at.ensures.within (omega arith)) ∙ ap (λ w. get_or (counts_of c.args.table.now) (16 * w + k) 0) c.word_of-at.ensures.word)
