-- Lists one of whose items is changed.
use Rattle.std.proofs.Common.{◌≡◌, refl, ap, sym, ℕ, zero, suc, ◌<◌, arith, List, [], ◌∷◌, length, get_or, Some, inl, inr, ◌⊎◌}
use Rattle.std.specs.Prelude.{slice_get, slice_set}

module _ {X : Type 0} where
  pub there : (xs : List X) (i : ℕ) (x : X) → i < length xs → x ≡ get_or xs i x → slice_get xs i ≡ Some x
  there [] i x low e = absurd (omega arith)
  there (y ∷ xs) zero x low e = ap Some (sym e)
  there (y ∷ xs) (suc i) x low e = there xs i x (omega arith) e

  pub length-set_at : (xs : List X) (i : ℕ) (x : X) → length (slice_set xs i x) ≡ length xs
  length-set_at [] i x = refl
  length-set_at (y ∷ xs) zero x = refl
  length-set_at (y ∷ xs) (suc i) x = ap suc (length-set_at xs i x)

  -- what stands in a list one of whose items was changed
  pub one_set : (xs : List X) (i k : ℕ) (x y : X) → slice_get (slice_set xs i x) k ≡ Some y → ((k ≡ i) × (y ≡ x)) ⊎ (slice_get xs k ≡ Some y)
  one_set [] i k x y e = absurd (cc)
  one_set (z ∷ xs) zero zero x y e = inl (refl, cc)
  one_set (z ∷ xs) zero (suc k) x y e = inr e
  one_set (z ∷ xs) (suc i) zero x y e = inr e
  one_set (z ∷ xs) (suc i) (suc k) x y e = elim (one_set xs i k x y e) [ inl same ↦ inl (ap suc same.0, same.1) | inr other ↦ inr other ]
