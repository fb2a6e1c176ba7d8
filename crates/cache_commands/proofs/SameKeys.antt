-- When two keys are the same.
use Rattle.audit_model.specs.Bytewise.{same}
use Rattle.std.proofs.Common.{◌≡◌, ℕ, true, false, List, refl, sym, ap}
use Rattle.std.proofs.lemmas.Bool.{both_ways, false_from_ne_true}
use Rattle.std.proofs.lemmas.Slice.Eq.{bytes_eq-Decides}

pub equal_from_same : (a b : List ℕ) → same a b ≡ true → a ≡ b
equal_from_same a b e = (bytes_eq-Decides a b).0 e

pub same_from_equal : (a b : List ℕ) → a ≡ b → same a b ≡ true
same_from_equal a b e = (bytes_eq-Decides a b).1 e

pub same-refl : (a : List ℕ) → same a a ≡ true
same-refl a = same_from_equal a a refl

-- keys that are the same are told apart from no third one
pub same_along : (q a b : List ℕ) → same a b ≡ true → same q b ≡ same q a
same_along q a b e = ap (same q) (sym (equal_from_same a b e))

pub same-flip_false : (a b : List ℕ) → same a b ≡ false → same b a ≡ false
same-flip_false a b h = false_from_ne_true (same b a) (λ e. both_ways (same a b) h (same_from_equal a b (sym (equal_from_same b a e))))
