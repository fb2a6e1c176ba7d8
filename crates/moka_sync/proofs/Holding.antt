-- What is said of a call in one hold, once the lock is let go.
use Rattle.std.proofs.Common.{◌≡◌, ℕ, ◌+◌, ◌<◌, ◌⊎◌, inl, inr, subst, sym, ap, zero, suc, arith, List, length, Option, Some, None, Result, Ok, Err, IfOk, IfSome, OnOk}
use Rattle.moka_sync.specs.Holding.{BearTheirPlaces, DoneUnderAll, DoneUnderEach, DoneUnderLock, Guarded, GuardedShard}

same-or-less : (a b : ℕ) → a < b + 1 → (a ≡ b) ⊎ (a < b)
same-or-less zero zero low = inl (omega arith)
same-or-less zero (suc b) low = inr (omega arith)
same-or-less (suc a) zero low = absurd (omega arith)
same-or-less (suc a) (suc b) low = elim (same-or-less a b (omega arith)) [ inl same ↦ inl (ap suc same) | inr less ↦ inr (omega (arith, less)) ]

module _ {K V P S R : Type 0} where
  -- one desk more
  pub done-more : (count : ℕ) (Fact : Guarded K V P S R → Guarded K V P S R → Type 0) → DoneUnderEach count Fact → DoneUnderLock count Fact → DoneUnderEach (count + 1) Fact
  done-more count Fact each one number low = elim (same-or-less number count low) [
    | inl same ↦ subst (λ n. DoneUnderLock n Fact) (sym same) one
    | inr less ↦ each number less
  ]

  -- what was done while all locks were held
  pub done-all : {A E : Type 0} (r : Result A E) (count : ℕ) (Fact : List (GuardedShard K V P S R) → List (GuardedShard K V P S R) → Type 0) (old new : List (GuardedShard K V P S R))
      → length old ≡ count → BearTheirPlaces old (λ d. d.number) → OnOk r (Fact old new) → OnOk r (DoneUnderAll count Fact)
  done-all (Ok x) count Fact old new many numbered fact = record { old = old; new = new; many = many; numbered = numbered; fact = fact }
  done-all (Err e) count Fact old new many numbered fact = tt

-- a call with a predicate that returned a text
pub covered : {A E : Type 0} (r : Result A E) (Text : A → ℕ → Type 0) (Covers : ℕ → Type 0) → IfOk r (λ text. (id : ℕ) × Text text id × Covers id) → OnOk r ((id : ℕ) × Covers id)
covered (Ok text) Text Covers h = (h.0, h.2)
covered (Err e) Text Covers h = tt

-- what follows of a result
pub if-ok : {A E : Type 0} {P Q : A → Type 0} (r : Result A E) → ((a : A) → P a → Q a) → IfOk r P → IfOk r Q
if-ok (Ok a) more h = more a h
if-ok (Err e) more h = tt

pub on-ok : {A E P Q : Type 0} (r : Result A E) → (P → Q) → OnOk r P → OnOk r Q
on-ok (Ok a) more h = more h
on-ok (Err e) more h = tt

pub if-shown : {V E : Type 0} (Sees : Option V → Type 0) (Q : V → Type 0) (r : Result (Option V) E) → ((v : V) → Sees (Some v) → Q v) → IfOk r Sees → IfOk r (λ found. IfSome found Q)
if-shown Sees Q (Ok (Some v)) more h = more v h
if-shown Sees Q (Ok None) more h = tt
if-shown Sees Q (Err e) more h = tt
