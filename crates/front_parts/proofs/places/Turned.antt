-- Turns that begin and end.
use Rattle.std.proofs.Common.{◌≡◌, refl, ap, sym, ◌∙◌, subst, ℕ, ◌+◌, ◌<◌, arith, Bool, true, false, cond, ◌&&◌, List, [], ◌∷◌, ◌++◌, Option, Some, None, ◌==◌}
use Rattle.std.proofs.lemmas.Bool.{ne_eqb}
use Rattle.std.proofs.lemmas.List.Elements.{All-from_recursion}
use Rattle.std.specs.Cmp.{IsEquivalence}
use Rattle.std.specs.List.{AllByRecursion}
use Rattle.std.specs.Prelude.{All}
use Rattle.front_reference.specs.declared.data.OpenTurn.{OpenTurn}
use Rattle.front_reference.specs.declared.data.TurnKind.{TurnKind}
use Rattle.front_reference.specs.declared.data.TurnKind.TheVariants as turns
use Rattle.front_reference.specs.Fronts.{AreTurns, same_kind, turn_at, turn_of, without_turn}

same_kind-symm : (a b : TurnKind) → same_kind a b ≡ same_kind b a
same_kind-symm turns.With turns.With = refl
same_kind-symm turns.With turns.Optionally = refl
same_kind-symm turns.With turns.Try = refl
same_kind-symm turns.With turns.Compute = refl
same_kind-symm turns.Optionally turns.With = refl
same_kind-symm turns.Optionally turns.Optionally = refl
same_kind-symm turns.Optionally turns.Try = refl
same_kind-symm turns.Optionally turns.Compute = refl
same_kind-symm turns.Try turns.With = refl
same_kind-symm turns.Try turns.Optionally = refl
same_kind-symm turns.Try turns.Try = refl
same_kind-symm turns.Try turns.Compute = refl
same_kind-symm turns.Compute turns.With = refl
same_kind-symm turns.Compute turns.Optionally = refl
same_kind-symm turns.Compute turns.Try = refl
same_kind-symm turns.Compute turns.Compute = refl

-- a choice that is none
none_left : {X : Type 0} (b : Bool) (x : X) (o : Option X) → cond b (Some x) o ≡ None → (b ≡ false) × (o ≡ None)
none_left false x o h = (refl, h)
none_left true x o h = absurd (let no : ⊥ = cc in no)

module _ {K : Type 0} (eq : K → K → Bool) (laws : IsEquivalence eq) (hash : K → ℕ) where
  of-append : (ts : List (OpenTurn K)) (t : OpenTurn K) (kind : TurnKind) (key : K) → turn_of eq ts kind key ≡ None → (same_kind t.kind kind && eq key t.key) ≡ false → turn_of eq (ts ++ t ∷ []) kind key ≡ None
  of-append [] t kind key h other = ap (λ b. cond b (Some t) None) other
  of-append (x ∷ xs) t kind key h other =
      let k = none_left (same_kind x.kind kind && eq key x.key) x (turn_of eq xs kind key) h in
      ap (λ b. cond b (Some x) (turn_of eq (xs ++ t ∷ []) kind key)) k.0 ∙ of-append xs t kind key k.1 other

  at-append : (ts : List (OpenTurn K)) (t : OpenTurn K) (n : ℕ) → turn_at ts n ≡ None → (t.number == n) ≡ false → turn_at (ts ++ t ∷ []) n ≡ None
  at-append [] t n h other = ap (λ b. cond b (Some t) None) other
  at-append (x ∷ xs) t n h other =
      let k = none_left (x.number == n) x (turn_at xs n) h in
      ap (λ b. cond b (Some x) (turn_at (xs ++ t ∷ []) n)) k.0 ∙ at-append xs t n k.1 other

  apart-symm : (a b : TurnKind) (x y : K) → (same_kind a b && eq x y) ≡ false → (same_kind b a && eq y x) ≡ false
  apart-symm a b x y h = ap (λ c. c && eq y x) (same_kind-symm b a) ∙ ap (λ c. same_kind a b && c) (laws.symm y x) ∙ h

  -- a turn of a number that none had
  pub turns-append : (next : ℕ) (ts : List (OpenTurn K)) (t : OpenTurn K) → t.number ≡ next → t.hash ≡ hash t.key → turn_of eq ts t.kind t.key ≡ None → AreTurns eq hash next ts → AreTurns eq hash (next + 1) (ts ++ t ∷ [])
  turns-append next [] t number hashed free h = (refl, refl, omega arith, hashed, tt)
  turns-append next (x ∷ xs) t number hashed free h =
      let k = none_left (same_kind x.kind t.kind && eq t.key x.key) x (turn_of eq xs t.kind t.key) free in
      let low = h.2 in (
        of-append xs t x.kind x.key h.0 (apart-symm x.kind t.kind t.key x.key k.0),
        at-append xs t x.number h.1 (ne_eqb t.number x.number (λ same. absurd (omega (arith, same)))),
        omega arith,
        h.3,
        turns-append next xs t number hashed k.1 h.4,
      )

  of-without : (n : ℕ) (ts : List (OpenTurn K)) (kind : TurnKind) (key : K) → turn_of eq ts kind key ≡ None → turn_of eq (without_turn n ts) kind key ≡ None
  of-without n [] kind key h = h
  of-without n (x ∷ xs) kind key h = by_number (x.number == n) (λ e. of-without n xs kind key e)
    where
      k : ((same_kind x.kind kind && eq key x.key) ≡ false) × (turn_of eq xs kind key ≡ None)
      k = none_left (same_kind x.kind kind && eq key x.key) x (turn_of eq xs kind key) h

      by_number : (b : Bool) → (turn_of eq xs kind key ≡ None → turn_of eq (without_turn n xs) kind key ≡ None) → turn_of eq (cond b xs (x ∷ without_turn n xs)) kind key ≡ None
      by_number true later = k.1
      by_number false later = ap (λ b. cond b (Some x) (turn_of eq (without_turn n xs) kind key)) k.0 ∙ later k.1

  at-without : (n : ℕ) (ts : List (OpenTurn K)) (m : ℕ) → turn_at ts m ≡ None → turn_at (without_turn n ts) m ≡ None
  at-without n [] m h = h
  at-without n (x ∷ xs) m h = by_number (x.number == n) (λ e. at-without n xs m e)
    where
      k : ((x.number == m) ≡ false) × (turn_at xs m ≡ None)
      k = none_left (x.number == m) x (turn_at xs m) h

      by_number : (b : Bool) → (turn_at xs m ≡ None → turn_at (without_turn n xs) m ≡ None) → turn_at (cond b xs (x ∷ without_turn n xs)) m ≡ None
      by_number true later = k.1
      by_number false later = ap (λ b. cond b (Some x) (turn_at (without_turn n xs) m)) k.0 ∙ later k.1

  pub turns-without : (n next : ℕ) (ts : List (OpenTurn K)) → AreTurns eq hash next ts → AreTurns eq hash next (without_turn n ts)
  turns-without n next [] h = h
  turns-without n next (x ∷ xs) h = by_number (x.number == n) (turns-without n next xs h.4)
    where
      by_number : (b : Bool) → AreTurns eq hash next (without_turn n xs) → AreTurns eq hash next (cond b xs (x ∷ without_turn n xs))
      by_number true later = h.4
      by_number false later = (of-without n xs x.kind x.key h.0, at-without n xs x.number h.1, h.2, h.3, later)

  -- the hash of a turn is its key's
  pub turn-hashed : (next : ℕ) (ts : List (OpenTurn K)) (n : ℕ) (t : OpenTurn K) → AreTurns eq hash next ts → turn_at ts n ≡ Some t → t.hash ≡ hash t.key
  turn-hashed next [] n t h at = absurd (let no : ⊥ = cc in no)
  turn-hashed next (x ∷ xs) n t h at = by_number (x.number == n) at (λ e. turn-hashed next xs n t h.4 e)
    where
      by_number : (b : Bool) → cond b (Some x) (turn_at xs n) ≡ Some t → (turn_at xs n ≡ Some t → t.hash ≡ hash t.key) → t.hash ≡ hash t.key
      by_number true e later = let same : x ≡ t = cc in subst (λ y. y.hash ≡ hash y.key) same h.3
      by_number false e later = later e

  -- each number is below the next
  numbers_low-rec : (next : ℕ) (ts : List (OpenTurn K)) → AreTurns eq hash next ts → AllByRecursion (λ t. t.number < next) ts
  numbers_low-rec next [] h = tt
  numbers_low-rec next (x ∷ xs) h = (h.2, numbers_low-rec next xs h.4)

  pub numbers_low : (next : ℕ) (ts : List (OpenTurn K)) → AreTurns eq hash next ts → All (λ t. t.number < next) ts
  numbers_low next ts h = All-from_recursion (λ t. t.number < next) ts (numbers_low-rec next ts h)

  -- the turns of a key have its hash
  module _ (respects : (x y : K) → eq x y ≡ true → hash x ≡ hash y) where
    stand_under-rec : (next : ℕ) (key : K) (ts : List (OpenTurn K)) → AreTurns eq hash next ts → AllByRecursion (λ t. eq key t.key ≡ true → t.hash ≡ hash key) ts
    stand_under-rec next key [] h = tt
    stand_under-rec next key (x ∷ xs) h = (λ same. h.3 ∙ sym (respects key x.key same), stand_under-rec next key xs h.4)

    pub stand_under : (next : ℕ) (key : K) (ts : List (OpenTurn K)) → AreTurns eq hash next ts → All (λ t. eq key t.key ≡ true → t.hash ≡ hash key) ts
    stand_under next key ts h = All-from_recursion (λ t. eq key t.key ≡ true → t.hash ≡ hash key) ts (stand_under-rec next key ts h)
