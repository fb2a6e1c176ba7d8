-- What is still to come of an iterator.
use Rattle.std.specs.Prelude.{◌≡◌, ℕ, zero, suc, ◌-◌, List, [], ◌∷◌, ◌++◌, reverse, Option, Some, None, MatchOption, Result, Ok, Err}
use Rattle.front_reference.specs.declared.errors.CacheError.{CacheError}
use Rattle.front_reference.specs.declared.errors.CacheError.TheVariants as errors

-- the keys of this many segments, from a place on
abbrev pub keys_from : {K : Type 0} → (ℕ → List K) → (count place : ℕ) → List K
keys_from keys_in zero place = []
keys_from keys_in (suc n) place = keys_in place ++ keys_from keys_in n (suc place)

-- what an iterator goes over: segments of keys, and the value of a key
pub record Source (K V : Type 0) : Type 0 where
  pub segments : ℕ
  pub keys_in : ℕ → List K
  pub value_of : K → Option V

-- at a moment
abbrev pub source_at : {C K V : Type 0} → (C → ℕ) → (C → ℕ → List K) → (C → ℕ → K → Option V) → C
    → (now : ℕ) → Source K V
source_at segments keys_in value_of c now =
    record { segments = segments c; keys_in = keys_in c; value_of = value_of c now }

module _ {K V : Type 0} where
  -- a key with its value, if it has one, before others
  abbrev pub pair_before : K → Option V → List (K × V) → List (K × V)
  pair_before key None others = others
  pair_before key (Some value) others = (key, value) ∷ others

  -- those of these keys that have a value, with it
  abbrev pub pairs : (K → Option V) → List K → List (K × V)
  pairs value_of [] = []
  pairs value_of (key ∷ keys) = pair_before key (value_of key) (pairs value_of keys)

  -- the pairs of keys the last of which is next
  abbrev pub pairs_back : Source K V → List K → List (K × V)
  pairs_back source keys = pairs source.value_of (reverse keys)

  -- the pairs of such keys, and then those of the segments from a place on
  abbrev pub coming_of : Source K V → List K → (place : ℕ) → List (K × V)
  coming_of source keys place =
      pairs source.value_of
      (reverse keys ++ keys_from source.keys_in (source.segments - place) place)

  -- all pairs
  abbrev pub all_pairs : Source K V → List (K × V)
  all_pairs source = pairs source.value_of (keys_from source.keys_in source.segments 0)

  -- the first pair is returned, if its key has a value
  abbrev pub Tries : Option (K × V) → (old new : List (K × V)) → Type 0
  Tries None old new = new ≡ old
  Tries (Some pair) old new = old ≡ pair ∷ new

  -- the first pair is returned, or none if there is none
  abbrev pub TakesFirst : Option (K × V) → (old new : List (K × V)) → Type 0
  TakesFirst None old new = (old ≡ []) × (new ≡ [])
  TakesFirst (Some pair) old new = old ≡ pair ∷ new

  -- the same for the pairs of keys the last of which is next
  abbrev pub TriesLast : Source K V → Option (K × V) → (old new : List K) → Type 0
  TriesLast source found old new = Tries found (pairs_back source old) (pairs_back source new)

  abbrev pub TakesLast : Source K V → Option (K × V) → (old new : List K) → Type 0
  TakesLast source found old new = TakesFirst found (pairs_back source old) (pairs_back source new)

  -- none of them is returned
  abbrev pub LeavesPairs : Source K V → (old new : List K) → Type 0
  LeavesPairs source old new = pairs_back source new ≡ pairs_back source old

  -- the same for all pairs that are still to come of such keys and of the segments from a place on
  abbrev pub TakesComing : Source K V → Option (K × V) → (old : List K) → (old_place : ℕ)
      → (new : List K) → (new_place : ℕ) → Type 0
  TakesComing source found old old_place new new_place =
      TakesFirst found (coming_of source old old_place) (coming_of source new new_place)

  -- none of those that are still to come is returned
  abbrev pub LeavesComing : Source K V → (old : List K) → (old_place : ℕ) → (new : List K)
      → (new_place : ℕ) → Type 0
  LeavesComing source old old_place new new_place =
      coming_of source new new_place ≡ coming_of source old old_place

  -- the keys that are left if there is no pair: none
  abbrev pub LeavesKeys : Option (K × V) → List K → Type 0
  LeavesKeys None keys = keys ≡ []
  LeavesKeys (Some pair) keys = Unit {0}

-- an iterator: what it goes over, at which moment, and the pairs that are still to come
pub record Iteration (C K V : Type 0) : Type 0 where
  pub source : C
  pub now : ℕ
  pub coming : List (K × V)

module _ {K V : Type 0} where
  -- the first pair is returned; if memory was refused, all are still to come
  abbrev pub GivesItem : Result (K × V) CacheError → (old new : List (K × V)) → Type 0
  GivesItem (Ok pair) old new = old ≡ pair ∷ new
  GivesItem (Err e) old new = (e ≡ errors.OutOfMemory) × (new ≡ old)

  -- the first of what is to come is returned, and nothing if nothing is to come
  pub record GivesNext {
      C : Type 0} (old : Iteration C K V) (given : Option (Result (K × V) CacheError)) (new : Iteration C K V) : Type 0 where
    pub source : new.source ≡ old.source
    pub now : new.now ≡ old.now
    pub gives : MatchOption given ((old.coming ≡ []) × (new.coming ≡ []))
        (λ item. GivesItem item old.coming new.coming)
