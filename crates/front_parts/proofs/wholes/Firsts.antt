-- A list whose first items are changed, one after another.
use Rattle.std.proofs.Common.{◌≡◌, refl, ap, sym, ◌∙◌, subst, ℕ, zero, suc, ◌+◌, ◌<◌, arith, List, [], ◌∷◌, length, get_or, Some}
use Rattle.std.specs.Prelude.{slice_get, slice_set}
use Rattle.front_parts.specs.Wholes.Firsts.{changed_first}

one_more : (n : ℕ) → suc n ≡ n + 1
one_more n = omega arith

module _ {X : Type 0} where
  pub there : (xs : List X) (i : ℕ) (x : X) → i < length xs → x ≡ get_or xs i x → slice_get xs i ≡ Some x
  there [] i x low e = absurd (omega arith)
  there (y ∷ xs) zero x low e = ap Some (sym e)
  there (y ∷ xs) (suc i) x low e = there xs i x (omega arith) e

  pub set_same : (xs : List X) (i : ℕ) (x : X) → slice_get xs i ≡ Some x → slice_set xs i x ≡ xs
  set_same [] i x e = refl
  set_same (y ∷ xs) zero x e = let same : y ≡ x = cc in ap (λ z. z ∷ xs) (sym same)
  set_same (y ∷ xs) (suc i) x e = ap (λ l. y ∷ l) (set_same xs i x e)

  pub set-length : (xs : List X) (i : ℕ) (x : X) → length (slice_set xs i x) ≡ length xs
  set-length [] i x = refl
  set-length (y ∷ xs) zero x = refl
  set-length (y ∷ xs) (suc i) x = ap suc (set-length xs i x)

  pub set-other : (xs : List X) (i k : ℕ) (x : X) → i < k → slice_get (slice_set xs i x) k ≡ slice_get xs k
  set-other [] i k x less = refl
  set-other (y ∷ xs) zero zero x less = absurd (omega arith)
  set-other (y ∷ xs) zero (suc k) x less = refl
  set-other (y ∷ xs) (suc i) zero x less = absurd (omega arith)
  set-other (y ∷ xs) (suc i) (suc k) x less = set-other xs i k x (omega arith)

  pub first-length : (F : ℕ → X → X) (n : ℕ) (xs : List X) → length (changed_first F n xs) ≡ length xs
  first-length F zero xs = refl
  first-length F (suc n) [] = refl
  first-length F (suc n) (x ∷ xs) = ap suc (first-length (λ k. F (suc k)) n xs)

  first-rest : (F : ℕ → X → X) (n : ℕ) (xs : List X) → slice_get (changed_first F n xs) n ≡ slice_get xs n
  first-rest F zero xs = refl
  first-rest F (suc n) [] = refl
  first-rest F (suc n) (x ∷ xs) = first-rest (λ k. F (suc k)) n xs

  first-suc : (F : ℕ → X → X) (n : ℕ) (xs : List X) (x : X) → slice_get xs n ≡ Some x → slice_set (changed_first F n xs) n (F n x) ≡ changed_first F (suc n) xs
  first-suc F n [] x e = absurd (let no : ⊥ = cc in no)
  first-suc F zero (y ∷ xs) x e = let same : y ≡ x = cc in ap (λ z. F 0 z ∷ xs) (sym same)
  first-suc F (suc n) (y ∷ xs) x e = ap (λ l. F 0 y ∷ l) (first-suc (λ k. F (suc k)) n xs x e)

  -- the item at a place, of which the ones before are changed
  pub first-there : (F : ℕ → X → X) (i : ℕ) (old new : List X) (x : X) → new ≡ changed_first F i old → i < length old → x ≡ get_or new i x → slice_get old i ≡ Some x
  first-there F i old new x e low is =
      let long : length new ≡ length old = ap length e ∙ first-length F i old in
      sym (first-rest F i old) ∙ ap (λ l. slice_get l i) (sym e) ∙ there new i x (omega arith) is

  -- and it is changed
  pub first-step : (F : ℕ → X → X) (i : ℕ) (old new : List X) (x t : X) → new ≡ changed_first F i old → i < length old → x ≡ get_or new i x → t ≡ F i x → slice_set new i t ≡ changed_first F (i + 1) old
  first-step F i old new x t e low is does =
      let here = first-there F i old new x e low is in
      ap (λ l. slice_set l i t) e ∙ ap (λ y. slice_set (changed_first F i old) i y) does ∙ first-suc F i old x here ∙ ap (λ m. changed_first F m old) (one_more i)

  -- what undoes each change
  pub undone : (f g : X → X) → ((x : X) → g (f x) ≡ x) → (n : ℕ) (xs : List X) → changed_first (λ k. g) n (changed_first (λ k. f) n xs) ≡ xs
  undone f g back zero xs = refl
  undone f g back (suc n) [] = refl
  undone f g back (suc n) (x ∷ xs) = ap (λ y. y ∷ changed_first (λ k. g) n (changed_first (λ k. f) n xs)) (back x) ∙ ap (λ l. x ∷ l) (undone f g back n xs)

  -- all or the first of a list are so
  pub first-all : (f : X → X) (P : X → Type 0) → ((x : X) → P (f x)) → (n : ℕ) (xs : List X) (k : ℕ) (x : X) → k < n → slice_get (changed_first (λ k. f) n xs) k ≡ Some x → P x
  first-all f P made zero xs k x low e = absurd (omega arith)
  first-all f P made (suc n) [] k x low e = absurd (let no : ⊥ = cc in no)
  first-all f P made (suc n) (y ∷ xs) zero x low e = let same : f y ≡ x = cc in subst P same (made y)
  first-all f P made (suc n) (y ∷ xs) (suc k) x low e = first-all f P made n xs k x (omega arith) e
