-- Lists of numbers that do not fall are one where each number is in both as often.
use Rattle.std.proofs.Common.{◌≡◌, refl, ap, ◌∙◌, ℕ, ◌+◌, ◌<◌, ◌≤◌, suc, zero, arith, Bool, true, false, cond, eqb, List, [], ◌∷◌, length}
use Rattle.std.specs.Prelude.{map, slice_index_or}
use Rattle.std.proofs.lemmas.Bool.{eq-eqb, ne_eqb, ltb-false, ltb-true}
use Rattle.std.specs.List.Sorted.{IsNonDecreasingBy}
use Rattle.std.specs.Prelude.{nat_lt}

-- how often a number is there
abbrev pub count : ℕ → List ℕ → ℕ
count n [] = 0
count n (x ∷ xs) = cond (eqb x n) 1 0 + count n xs

abbrev pub AllFrom : ℕ → List ℕ → Type 0
AllFrom x [] = Unit {0}
AllFrom x (y ∷ ys) = (x ≤ y) × AllFrom x ys

abbrev pub NeverFall : List ℕ → Type 0
NeverFall [] = Unit {0}
NeverFall (x ∷ xs) = AllFrom x xs × NeverFall xs

none-below : (n x : ℕ) (xs : List ℕ) → n < x → AllFrom x xs → count n xs ≡ 0
none-below n x [] less h = refl
none-below n x (y ∷ ys) less h =
    let first = h.0 in
    let other : eqb y n ≡ false = ne_eqb y n (λ e. omega arith) in
    ap (λ b. cond b 1 0 + count n ys) other ∙ (let later = none-below n x ys less h.1 in omega arith)

one-first : (x : ℕ) (xs : List ℕ) → count x (x ∷ xs) ≡ 1 + count x xs
one-first x xs = ap (λ b. cond b 1 0 + count x xs) (eq-eqb x x refl)

-- a number below the first is nowhere
nowhere : (n x : ℕ) (xs : List ℕ) → n < x → AllFrom x xs → count n (x ∷ xs) ≡ 0
nowhere n x xs less h =
    let other : eqb x n ≡ false = ne_eqb x n (λ e. omega arith) in
    ap (λ b. cond b 1 0 + count n xs) other ∙ (let later = none-below n x xs less h in omega arith)

cancelled : (a b m n : ℕ) → a + m ≡ b + n → a ≡ b → m ≡ n
cancelled a b m n e f = omega (arith, e, f)

pub same-counts : (xs ys : List ℕ) → NeverFall xs → NeverFall ys → ((n : ℕ) → count n xs ≡ count n ys) → xs ≡ ys
same-counts [] [] h k same = refl
same-counts [] (y ∷ ys) h k same = absurd (let e = same y in let one = one-first y ys in omega arith)
same-counts (x ∷ xs) [] h k same = absurd (let e = same x in let one = one-first x xs in omega arith)
same-counts (x ∷ xs) (y ∷ ys) h k same = go (nat_lt x y) (nat_lt y x) refl refl (λ counts. same-counts xs ys h.1 k.1 counts)
  where
    go : (a b : Bool) → nat_lt x y ≡ a → nat_lt y x ≡ b → (((n : ℕ) → count n xs ≡ count n ys) → xs ≡ ys) → x ∷ xs ≡ y ∷ ys
    go true b s t later = absurd (let e = same x in let one = one-first x xs in let none = nowhere x y ys (ltb-true x y s) k.0 in omega arith)
    go false true s t later = absurd (let e = same y in let one = one-first y ys in let none = nowhere y x xs (ltb-true y x t) h.0 in omega arith)
    go false false s t later =
        let is : x ≡ y = (let below = ltb-false x y s in let above = ltb-false y x t in omega arith) in
        let rest : xs ≡ ys = later (λ n. cancelled (cond (eqb x n) 1 0) (cond (eqb y n) 1 0) (count n xs) (count n ys) (same n) (ap (λ m. cond (eqb m n) 1 0) is)) in
        ap (λ m. m ∷ xs) is ∙ ap (λ l. y ∷ l) rest

module _ {X : Type 0} (number : X → ℕ) where
  all-from : (x : ℕ) (ss : List X) (d : X) → ((j : ℕ) → j < length ss → x ≤ number (slice_index_or ss j d)) → AllFrom x (map number ss)
  all-from x [] d h = tt
  all-from x (s ∷ ss) d h = (h zero (omega arith), all-from x ss d (λ j less. h (suc j) (omega arith)))

  -- what is sorted does not fall
  pub sorted-never_falls : (ss : List X) → IsNonDecreasingBy number ss → NeverFall (map number ss)
  sorted-never_falls [] h = tt
  sorted-never_falls (s ∷ ss) h = (all-from (number s) ss s (λ j less. h zero (suc j) s (omega arith) (omega arith)), sorted-never_falls ss (λ i j d le less. h (suc i) (suc j) d (omega arith) (omega arith)))
