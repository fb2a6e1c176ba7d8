use Rattle.std.proofs.Common.{◌≡◌, ℕ, ◌+◌, ◌-◌, ◌*◌, ◌/◌, ◌^◌, ◌<◌, ◌≤◌, arith, ap, ◌∙◌, subst}
use Rattle.std.proofs.Math.Nat.{div-lt_iff_lt-mul}
use Rattle.std.proofs.lemmas.Nat.{pow-add, pow_pos}
use Rattle.front_parts.proofs.places.hashing.place_of.Goals as goal

whole : (bits : ℕ) → bits ≤ 16 → 2 ^ 64 ≡ 2 ^ bits * 2 ^ (64 - bits)
whole bits low = let e : 64 ≡ bits + (64 - bits) = omega arith in ap (λ n. 2 ^ n) e ∙ pow-add 2 bits (64 - bits)

below : (bits hash : ℕ) → bits ≤ 16 → hash < 2 ^ 64 → hash / 2 ^ (64 - bits) < 2 ^ bits
below bits hash low fits = (div-lt_iff_lt-mul (pow_pos (64 - bits))).1 (subst (λ n. hash < n) (whole bits low) fits)

pub returns-else-bits-eq0-clause-within : goal.returns-else-bits-eq0-clause-within
returns-else-bits-eq0-clause-within c = below c.args.bits c.args.hash c.requires (omega arith)
