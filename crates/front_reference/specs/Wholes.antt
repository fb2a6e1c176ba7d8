-- Calls on all parts: runs, clears, predicates, notices, counts, the iterator, and a front that was just created.
use Rattle.std.specs.Prelude.{◌≡◌, ◌⊎◌, ℕ, ◌^◌, ◌<◌, Bool, true, List, [], ◌∷◌, Option, Some, None, length, slice_get, min, sum_by}
use Rattle.rand_core.specs.Stream.{Stream}
use Rattle.engine_reference.specs.declared.data.Entry.{Entry}
use Rattle.engine_reference.specs.declared.data.Notice.{Notice}
use Rattle.engine_reference.specs.Calls.{with_predicate, without_notice, IsNew}
use Rattle.engine_reference.specs.Laws.{CountsExactly}
use Rattle.engine_reference.specs.Runs.{RunsToEnd}
use Rattle.engine_reference.specs.Scanning.{visible_keys}
use Rattle.engine_reference.specs.State.{State, Answers}
use Rattle.engine_reference.specs.Visible.{visible}
use Rattle.engine_reference.specs.Identifiers.Drawing.{Draws, AreInUse, is_registered}
use Rattle.front_reference.specs.Fronts.{Front, part_by_hash, part_of}

-- the first element of a list, or something else if it is empty
abbrev pub first_or : {X : Type 0} → List X → Option X → Option X
first_or [] other = other
first_or (x ∷ xs) other = Some x

module _ {K V P S R : Type 0} where
  -- ---- notices

  -- the oldest notice of the first part that has one
  abbrev pub next_told : List (State K V P S R) → Option (Notice K V)
  next_told [] = None
  next_told (s ∷ ss) = first_or s.notices (next_told ss)

  -- and the parts without it
  abbrev pub taken_or : List (Notice K V) → (without other : List (State K V P S R))
      → List (State K V P S R)
  taken_or [] without other = other
  taken_or (n ∷ ns) without other = without

  abbrev pub without_told : List (State K V P S R) → List (State K V P S R)
  without_told [] = []
  without_told (s ∷ ss) = taken_or s.notices (without_notice s ∷ ss) (s ∷ without_told ss)

  -- ---- predicates

  -- all parts draw, in order, one identifier each that is not registered there
  abbrev pub DrawAll : List (State K V P S R) → Stream → Stream → List ℕ → Type 0
  DrawAll [] old new ids = (ids ≡ []) × (new ≡ old)
  DrawAll (s ∷ ss) old new ids =
      (id : ℕ) × (rest : List ℕ) × (mid : Stream) × (ids ≡ id ∷ rest)
      × Draws old mid (is_registered s.predicates) id × DrawAll ss mid new rest

  -- the parts before one of them drew an identifier, and that one drew a thousand that are in use
  abbrev pub DrawsInVain : List (State K V P S R) → Stream → Stream → Type 0
  DrawsInVain [] old new = ⊥
  DrawsInVain (s ∷ ss) old new =
      AreInUse old new (is_registered s.predicates) ⊎ ((id : ℕ) × (mid : Stream)
      × Draws old mid (is_registered s.predicates) id × DrawsInVain ss mid new)

  -- a predicate is registered in all parts, under one identifier each
  abbrev pub registered_in : P → (step : ℕ) → (ids : List ℕ) → List (State K V P S R)
      → List (State K V P S R)
  registered_in predicate step [] ss = ss
  registered_in predicate step (id ∷ ids) [] = []
  registered_in predicate step (id ∷ ids) (s ∷ ss) = with_predicate (record {
    id = id;
    predicate = predicate;
    step = step;
  }) s ∷ registered_in predicate step ids ss

  -- ---- counts, as of each part's last run, at most 2^64 - 1

  abbrev pub total_number : Front K V P S R → ℕ
  total_number f = min (sum_by (λ s. s.number) f.parts) 18446744073709551615

  abbrev pub total_weight : Front K V P S R → ℕ
  total_weight f = min (sum_by (λ s. s.weight) f.parts) 18446744073709551615

  -- ---- creating

  -- a front that was just created: no value, no turn
  pub record IsNewFront (f : Front K V P S R) : Type 0 where
    pub parts : (place : ℕ) (s : State K V P S R) → slice_get f.parts place ≡ Some s
        → IsNew None f.common.settings f.common.hasher f.common.rules s
    pub count : length f.parts ≡ 2 ^ f.bits
    pub turns : f.turns ≡ []
    pub next_turn : f.next_turn ≡ 0
    pub moment : f.moment ≡ f.common.settings.made
    pub step : f.step ≡ 0

module _ {K V P S R : Type 0} (answers : Answers K V P R) where
  -- `run_pending_tasks` does this to each part: it runs to its end, and its counts are exact
  pub record RunsPart (now : ℕ) (old new : State K V P S R) : Type 0 where
    pub runs : RunsToEnd answers now old new
    pub counts : CountsExactly K V P S R answers new

  -- how many keys of the parts have a visible value, at most 2^64 - 1
  abbrev pub visible_number : (K → K → Bool) → (now : ℕ) → List (State K V P S R) → ℕ
  visible_number eq now ss =
      min (sum_by (λ s. length (visible_keys answers eq s now)) ss) 18446744073709551615

  -- What an iterator over a front has returned once it has passed this many parts. The front does not change in the meantime, and keys are
  -- hashed like this
  pub record HasGiven (eq : K → K → Bool) (hash : K → ℕ) (now : ℕ) (f : Front K V P S R) (parts : ℕ)
      (given : List (K × V)) : Type 0 where
    -- no key twice
    pub once : (a b : ℕ) (x y : K × V) → slice_get given a ≡ Some x → slice_get given b ≡ Some y
        → eq x.0 y.0 ≡ true → a ≡ b
    -- only what is visible in the key's part
    pub right : (a : ℕ) (x : K × V) → slice_get given a ≡ Some x
        → (s : State K V P S R) × (part_by_hash f (hash x.0) ≡ Some s) × ((e : Entry K V)
        × (visible answers eq s now x.0 ≡ Some e) × (e.key ≡ x.0) × (e.value ≡ x.1))
    -- everything that is visible in the parts that it passed
    pub all : (s : State K V P S R) (key : K) (e : Entry K V) → part_of f.bits (hash key) < parts
        → part_by_hash f (hash key) ≡ Some s → visible answers eq s now key ≡ Some e
        → (a : ℕ) × (slice_get given a ≡ Some (e.key, e.value))
