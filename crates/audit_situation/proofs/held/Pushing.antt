-- Finding, leaving out and changing, one more at the end.
use Rattle.std.proofs.Common.{arith, ◌≡◌, refl, ap, Bool, cond, true, false, List, [], ◌∷◌, ◌++◌, Some, None, ℕ}
use Rattle.std.specs.List.{find}
use Rattle.std.proofs.lemmas.Option.{none-some}
use Rattle.audit_model.specs.Bytewise.{same}
use Rattle.audit_model.specs.Values.{without_key}
use Rattle.std.proofs.lemmas.Bool.Decides.{nat_tests}

module _ {X : Type 0} (p : X → Bool) where
  pub find-behind : (xs : List X) (x : X) → find p xs ≡ None → find p (xs ++ x ∷ []) ≡ cond (p x) (Some x) None
  find-behind [] x e = refl
  find-behind (y ∷ xs) x e = let next = find-behind xs x in grind (arith, nat_tests, e, next)

  pub find-past : (xs : List X) (x : X) → p x ≡ false → find p (xs ++ x ∷ []) ≡ find p xs
  find-past [] x e = ap (λ b. cond b (Some x) None) e
  find-past (y ∷ xs) x e = ap (λ o. cond (p y) (Some y) o) (find-past xs x e)

  pub find-before : (xs ys : List X) (y : X) → find p xs ≡ Some y → find p (xs ++ ys) ≡ Some y
  find-before [] ys y e = absurd (none-some y e)
  find-before (x ∷ xs) ys y e = let next = find-before xs ys y in grind (arith, nat_tests, e, next)

module _ {X : Type 0} (key_of : X → List ℕ) (key : List ℕ) where
  abbrev hits : X → Bool
  hits x = same key (key_of x)

  pub without-behind : (xs : List X) (x : X) → find hits xs ≡ None → hits x ≡ true → without_key key_of key (xs ++ x ∷ []) ≡ xs
  without-behind [] x e h = ap (λ b. cond b [] (x ∷ [])) h
  without-behind (y ∷ xs) x e h = let next = without-behind xs x in grind (arith, nat_tests, e, h, next)

  pub without-past : (xs : List X) (x : X) → hits x ≡ false → without_key key_of key (xs ++ x ∷ []) ≡ without_key key_of key xs ++ x ∷ []
  without-past [] x h = ap (λ b. cond b [] (x ∷ [])) h
  without-past (y ∷ xs) x h = let next = without-past xs x h in grind (arith, nat_tests, next)

  pub without-before : (xs ys : List X) (y : X) → find hits xs ≡ Some y → without_key key_of key (xs ++ ys) ≡ without_key key_of key xs ++ ys
  without-before [] ys y e = absurd (none-some y e)
  without-before (x ∷ xs) ys y e = let next = without-before xs ys y in grind (arith, nat_tests, e, next)

  pub without-none : (xs : List X) → find hits xs ≡ None → without_key key_of key xs ≡ xs
  without-none [] e = refl
  without-none (x ∷ xs) e = let next = without-none xs in grind (arith, nat_tests, e, next)
