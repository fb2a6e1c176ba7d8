use Rattle.std.proofs.Common.{ℕ, ◌≡◌, ◌<◌, ◌≤◌, ◌+◌, ◌*◌, ◌%◌, ◌^◌, sym, ap, ◌∙◌, arith, mod-eq_of_lt}
use Rattle.std.proofs.Math.Nat.{pow-le-pow_right}
use Rattle.std.proofs.lemmas.Nat.{pow-add}
use Rattle.policy_base.proofs.Nibbles.{pow16, nibbles-bump, bump-fits}
use Rattle.policy_base.proofs.sketch.with_one_more.Goals as goal

shifted : (row i : ℕ) → row < 4 → i < 4 → 1 * 2 ^ (4 * i) % 18446744073709551616 * 2 ^ (16 * row) % 18446744073709551616 ≡ 16 ^ (4 * row + i)
shifted row i r s =
    let low : 2 ^ (4 * i) ≤ 2 ^ 12 = pow-le-pow_right {n = 2} (omega arith) {i = 4 * i} {j = 12} (omega arith) in
    let one : 1 * 2 ^ (4 * i) ≡ 2 ^ (4 * i) = omega arith in
    let small : 1 * 2 ^ (4 * i) < 18446744073709551616 = omega arith in
    let e : 4 * i + 16 * row ≡ 4 * (4 * row + i) = omega arith in
    let k = pow16 (4 * row + i) in
    let high : 2 ^ (4 * (4 * row + i)) ≤ 2 ^ 60 = pow-le-pow_right {n = 2} (omega arith) {i = 4 * (4 * row + i)} {j = 60} (omega arith) in
    let fits : 16 ^ (4 * row + i) < 18446744073709551616 = omega arith in
    ap (λ x. x * 2 ^ (16 * row) % 18446744073709551616) (mod-eq_of_lt small ∙ one) ∙ ap (λ x. x % 18446744073709551616) (sym (pow-add 2 (4 * i) (16 * row)) ∙ ap (λ x. 2 ^ x) e ∙ sym k) ∙ mod-eq_of_lt fits

pub overflow_add-result : goal.overflow_add-result
overflow_add-result c =
    let e = shifted c.args.row c.args.i c.requires.row c.requires.index in
    let f = bump-fits 16 c.args.word (4 * c.args.row + c.args.i) (omega arith) c.requires.below (omega arith) in
    omega arith

pub returns : goal.returns
returns c = rw (shifted c.args.row c.args.i c.requires.row c.requires.index) (nibbles-bump 16 c.args.word (4 * c.args.row + c.args.i) (omega arith) c.requires.below)
