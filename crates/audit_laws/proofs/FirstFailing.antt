-- The first number that fails a test, among k numbers behind m.
use Rattle.std.proofs.Common.{◌≡◌, refl, ◌∙◌, ℕ, zero, suc, ◌+◌, ◌<◌, ◌≤◌, Bool, true, false, cond, Option, Some, None, arith}
use Rattle.std.specs.Option.{option_or}
use Rattle.std.proofs.lemmas.Bool.Decides.{nat_tests}

abbrev pub first_from : (ℕ → Bool) → ℕ → ℕ → Option ℕ
first_from p m zero = None
first_from p m (suc k) = cond (p (suc m)) (first_from p (suc m) k) (Some (suc m))

abbrev pub later : ℕ → ℕ → ℕ
later m zero = m
later m (suc k) = later (suc m) k

pub later-sum : (m k : ℕ) → later m k ≡ m + k
later-sum m zero = omega arith
later-sum m (suc k) = later-sum (suc m) k ∙ omega arith

-- the last number apart
pub first_from-last : (p : ℕ → Bool) (m k : ℕ) → first_from p m (suc k) ≡ option_or (first_from p m k) (cond (p (suc (later m k))) None (Some (suc (later m k))))
first_from-last p m zero = refl
first_from-last p m (suc k) = let next = first_from-last p (suc m) k in grind (arith, nat_tests, next)

pub record First (p : ℕ → Bool) (m k n : ℕ) : Type 0 where
  pub above : m < n
  pub within : n ≤ m + k
  pub fails : p n ≡ false
  pub before : (j : ℕ) → m < j → j < n → p j ≡ true

-- all numbers pass, or the first one that fails is found
abbrev pub Finds : (ℕ → Bool) → ℕ → ℕ → Option ℕ → Type 0
Finds p m k None = (j : ℕ) → m < j → j ≤ m + k → p j ≡ true
Finds p m k (Some n) = First p m k n

pub finds-from : (p : ℕ → Bool) (k m : ℕ) → Finds p m k (first_from p m k)
finds-from p zero m = λ j above within. absurd (omega arith)
finds-from p (suc k) m = let next = first_from p (suc m) k in let next2 = finds-from p k (suc m) in grind (arith, nat_tests, next, next2)
