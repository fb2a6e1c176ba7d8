-- The values that stand under a lock, one after the other, and who claims which hold of it.
use Rattle.std.specs.Prelude.{◌≡◌, ◌⊎◌, ◌<◌, ◌≤◌, ◌+◌, ℕ, true, false, List, [], ◌∷◌, length, Some, slice_get}
use mathlib.Core.Option.{some}
use lib.ListN.{get_elem?}
use Rattle.atomic_table.specs.Seated.{TableId}
use Rattle.atomic_table.specs.Table.{Me, State, Step}
use Rattle.cache_history.specs.declared.known.Known.{Known}
use Rattle.cache_history.specs.declared.known.Own.{Own}

-- the name of no history
abbrev pub no_history : TableId
no_history = record {
  words = 0;
  slots = 0;
  views_name = 0;
  atom = 0;
  block = 0;
  offset = 0;
  slot_names = [];
}

-- a hold: how many came before it, and the value before and after it
abbrev pub Hold : Type 0 → Type 0
Hold C = ℕ × (C × C)

module _ {C : Type 0} where
  -- it is one of those that made these values, the latest first
  abbrev pub IsOneOf : List C → Hold C → Type 0
  IsOneOf [] hold = ⊥
  IsOneOf (c ∷ []) hold = ⊥
  IsOneOf (new ∷ old ∷ cs) hold = (hold ≡ (length cs, (old, new))) ⊎ IsOneOf (old ∷ cs) hold

  -- each of some is
  abbrev pub AreAmong : List C → List (Hold C) → Type 0
  AreAmong values [] = Unit {0}
  AreAmong values (hold ∷ holds) = IsOneOf values hold × AreAmong values holds

  -- each that each of several claims is
  abbrev pub AreAllOf : {X : Type 0} → List C → (X → Own C) → List X → Type 0
  AreAllOf values own [] = Unit {0}
  AreAllOf values own (x ∷ xs) = AreAmong values (own x).holds × AreAllOf values own xs

  -- it is the latest of these
  abbrev pub IsLatest : C → List C → Type 0
  IsLatest c values = slice_get values 0 ≡ Some c

  -- nothing is claimed
  abbrev pub no_claims : Own C
  no_claims = record { seen = 0; holds = [] }

  -- the hold that made this value of the latest, before others
  abbrev pub holds_with : List C → C → List (Hold C) → List (Hold C)
  holds_with [] new holds = holds
  holds_with (old ∷ cs) new holds = (length cs, (old, new)) ∷ holds

  -- the hold that makes this value of the latest is claimed too
  abbrev pub with_hold : List C → C → Own C → Own C
  with_hold values new own =
      record { seen = length values; holds = holds_with values new own.holds }

  abbrev pub knower : List C → Known C
  knower values = record { keeps = true; values = values; own = no_claims }

  abbrev pub first_view : C → Known C
  first_view start = knower (start ∷ [])

  -- the keeper without claims, and whoever has them
  abbrev pub bare : Known C → Known C
  bare v = record { keeps = v.keeps; values = v.values; own = no_claims }

  abbrev pub claimer : Known C → Known C
  claimer v = record { keeps = false; values = []; own = v.own }

  -- the keeper with the claims of another, and what is left of that
  abbrev pub laden : Known C → Known C → Known C
  laden v w = record { keeps = v.keeps; values = v.values; own = w.own }

  abbrev pub nobody : Known C
  nobody = record { keeps = false; values = []; own = no_claims }

  -- what a token claims
  abbrev pub own_of : List (Known C) → Own C
  own_of [] = no_claims
  own_of (v ∷ vs) = v.own

  -- one view, which is no keeper's
  abbrev pub IsClaimer : List (Known C) → Type 0
  IsClaimer [] = ⊥
  IsClaimer (v ∷ vs) = (v.keeps ≡ false) × (v.values ≡ []) × (vs ≡ [])

  -- a new value was noted, and nobody claims the hold that made it
  abbrev pub Passing : Step C → Me C (Known C) → ℕ → Me C (Known C) → Type 0
  Passing step v found w = (new : C) × (step.said ≡ some new)
      × (w ≡ (record { keeps = v.0.keeps; values = new ∷ v.0.values; own = v.0.own }, v.1))

  -- a history that begins with this value
  abbrev pub IsOpening : (C → Type 0) → C → TableId → TableId → Me C (Known C) → Type 0
  IsOpening Starts start table seat me = (seat ≡ table) × (0 < table.words)
      × (me ≡ (first_view start, [])) × Starts start

  module _ (Starts : C → Type 0) (Holds : C → C → Type 0) where
    -- Values, the latest first: each was made of the one before by a hold, and the first may begin.
    abbrev pub IsHistory : List C → Type 0
    IsHistory [] = ⊥
    IsHistory (c ∷ []) = Starts c
    IsHistory (new ∷ old ∷ cs) = Holds old new × IsHistory (old ∷ cs)

    -- a hold may make this of the latest
    abbrev pub IsNext : List C → C → Type 0
    IsNext [] new = ⊥
    IsNext (old ∷ cs) new = Holds old new

    -- One hold more is claimed, which came later than the others and took the value from one to another; and all that are claimed are of one
    -- history.
    pub record ClaimsOne (p q : Own C) (old new : C) : Type 0 where
      pub values : List C
      pub history : IsHistory values
      pub are : AreAmong values q.holds
      pub number : ℕ
      pub later : p.seen ≤ number
      pub seen : q.seen ≡ number + 1
      pub claimed : q.holds ≡ (number, (old, new)) ∷ p.holds

    -- What the rule says of a token: one at most knows all values, each hold that it claims is of these, and was there when it claimed one
    -- last.
    pub record Fits (seat : ℕ) (values : List C) (by : ℕ) (v : Known C) : Type 0 where
      pub keeps : v.keeps ≡ true → (by ≡ seat) × (v.values ≡ values)
      pub are : AreAmong values v.own.holds
      pub seen : v.own.seen < length values

    -- the rule
    pub record IsKept (s : State C (Known C)) : Type 0 where
      pub seat : ℕ
      pub values : List C
      pub is : IsHistory values
      pub fits : (by : ℕ) (v : Known C) → get_elem? s.views by ≡ some v → Fits seat values by v

    -- a token looked at the history
    abbrev pub Looking : Step C → Me C (Known C) → ℕ → Me C (Known C) → Type 0
    Looking step v found w = (w ≡ v) × AreAmong v.0.values v.0.own.holds
        × (v.0.own.seen < length v.0.values)

    -- a new value was noted, and the hold that made it claimed
    abbrev pub Claiming : Step C → Me C (Known C) → ℕ → Me C (Known C) → Type 0
    Claiming step v found w = (new : C) × (step.said ≡ some new)
        × (w ≡ (
          record {
            keeps = v.0.keeps;
            values = new ∷ v.0.values;
            own = with_hold v.0.values new v.0.own;
          },
          v.1,
        ))
        × AreAmong v.0.values v.0.own.holds × (v.0.own.seen < length v.0.values)

    -- a keeper of this history
    abbrev pub Keeps : TableId → TableId → TableId → Me C (Known C) → Type 0
    Keeps history table seat me = (table ≡ history) × (seat ≡ table) × (0 < table.words)
        × (me ≡ (knower me.0.values, [])) × IsHistory me.0.values
