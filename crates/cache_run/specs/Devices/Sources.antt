-- The readings of a clock, and the requests to a loader with their results.
use Rattle.std.specs.Prelude.{◌≡◌, ℕ, ◌≤◌, ◌^◌, List, [], ◌∷◌, Option}
use Rattle.audit_model.specs.declared.event.Outcome.{Outcome}

-- the readings of a clock, in order
abbrev pub Readings : {C : Type 0} → (C → ℕ → C → Type 0) → C → List ℕ → C → Type 0
Readings reads c [] d = d ≡ c
Readings {C} reads c (t ∷ ts) d = (m : C) × reads c t m × Readings reads m ts d

-- the last reading of the clock was a moment of 2 ^ 63 or more
abbrev pub HasToldLate : {C : Type 0} → (C → ℕ → C → Type 0) → C → Type 0
HasToldLate {C} reads clock =
    (before : C) × (moment : ℕ) × reads before moment clock × (2 ^ 63 ≤ moment)

-- a key that a loader was asked for, and what it returned
pub record Asking : Type 0 where
  pub key : List ℕ
  pub answer : Option Outcome

-- the requests to a loader with their results, in order
abbrev pub Askings : {L : Type 0} → (L → List ℕ → Option Outcome → L → Type 0) → L → List Asking → L
    → Type 0
Askings loads l [] k = k ≡ l
Askings {L} loads l (asking ∷ askings) k =
    (m : L) × loads l asking.key asking.answer m × Askings loads m askings k
