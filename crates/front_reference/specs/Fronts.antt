-- The front: several parts, the turns that are under way, and the latest moment and step.
use Rattle.std.specs.Prelude.{◌≡◌, ℕ, ◌+◌, ◌-◌, ◌/◌, ◌^◌, ◌==◌, ◌≤◌, ◌<◌, Bool, true, false, ◌&&◌, if◌then◌else◌, List, [], ◌∷◌, Option, Some, None, option_map, length, slice_get, slice_set}
use Rattle.engine_reference.specs.State.{State}
use Rattle.front_reference.specs.declared.data.OpenTurn.{OpenTurn}
use Rattle.front_reference.specs.declared.data.TurnKind.{TurnKind}
use Rattle.front_reference.specs.declared.data.TurnKind.TheVariants as turns
use Rattle.front_reference.specs.Keeping.{Common, IsKept}

-- the part of a hash among 2^bits parts: its upper bits
abbrev pub part_of : (bits hash : ℕ) → ℕ
part_of bits hash = hash / 2 ^ (64 - bits)

-- the share of each part of a configured capacity, rounded up
abbrev pub share_of : (parts capacity : ℕ) → ℕ
share_of parts capacity = (capacity + (parts - 1)) / parts

abbrev pub same_kind : TurnKind → TurnKind → Bool
same_kind turns.With turns.With = true
same_kind turns.Optionally turns.Optionally = true
same_kind turns.Try turns.Try = true
same_kind turns.Compute turns.Compute = true
same_kind _ _ = false

module _ {K : Type 0} where
  -- the turn of a kind and a key
  abbrev pub turn_of : (K → K → Bool) → List (OpenTurn K) → TurnKind → K → Option (OpenTurn K)
  turn_of eq [] kind key = None
  turn_of eq (t ∷ ts) kind key =
      if same_kind t.kind kind && eq key t.key then Some t else turn_of eq ts kind key

  -- the turn with a number
  abbrev pub turn_at : List (OpenTurn K) → ℕ → Option (OpenTurn K)
  turn_at [] number = None
  turn_at (t ∷ ts) number = if t.number == number then Some t else turn_at ts number

  abbrev pub without_turn : ℕ → List (OpenTurn K) → List (OpenTurn K)
  without_turn number [] = []
  without_turn number (t ∷ ts) = if t.number == number then ts else t ∷ without_turn number ts

  -- at most one turn of each kind and key, no number twice, each below the next one, and each hash that of its key
  abbrev pub AreTurns : (K → K → Bool) → (K → ℕ) → (next : ℕ) → List (OpenTurn K) → Type 0
  AreTurns eq hash next [] = Unit {0}
  AreTurns eq hash next (t ∷ ts) =
      (turn_of eq ts t.kind t.key ≡ None) × (turn_at ts t.number ≡ None) × (t.number < next)
      × (t.hash ≡ hash t.key) × AreTurns eq hash next ts

-- the part at a place is changed
pub record CallsAt {X : Type 0} (place : ℕ) (Rel : X → X → Type 0) (old new : List X) : Type 0 where
  pub before : X
  pub after : X
  pub there : slice_get old place ≡ Some before
  pub does : Rel before after
  pub changed : new ≡ slice_set old place after

-- each part is changed
pub record CallsEach {X : Type 0} (Rel : X → X → Type 0) (old new : List X) : Type 0 where
  pub count : length new ≡ length old
  pub each : (place : ℕ) (before : X) → slice_get old place ≡ Some before
      → (after : X) × (slice_get new place ≡ Some after) × Rel before after

pub record Front (K V P S R : Type 0) : Type 0 where
  pub parts : List (State K V P S R)
  -- how many bits of a hash determine its part
  pub bits : ℕ
  -- the name, as the bytes of a text, if it was given one
  pub name : Option (List ℕ)
  -- the configured capacity, of which each part has its share
  pub capacity : Option ℕ
  -- the settings with which each part was created
  pub common : Common S R
  -- the turns that are under way, the oldest first, and the number of the next one
  pub turns : List (OpenTurn K)
  pub next_turn : ℕ
  -- the moment and the step of the last call
  pub moment : ℕ
  pub step : ℕ

module _ {K V P S R : Type 0} where
  -- a call comes at a moment and a step that are not before the last
  pub record ComesAfter (now step : ℕ) (f : Front K V P S R) : Type 0 where
    pub later : f.moment ≤ now
    pub further : f.step ≤ step

  -- only the moment and the step change
  abbrev pub passed : ℕ → ℕ → Front K V P S R → Front K V P S R
  passed now step f = record f { moment = now; step = step }

  -- a call comes to the part of a hash, and nothing else changes but the moment and the step
  pub record CallsPart (hash now step : ℕ) (Rel : State K V P S R → State K V P S R → Type 0)
      (old new : Front K V P S R) : Type 0 where
    pub parts : List (State K V P S R)
    pub call : CallsAt (part_of old.bits hash) Rel old.parts parts
    pub changed : new ≡ passed now step (record old { parts = parts })

  -- a call comes to each part
  pub record CallsAll (now step : ℕ) (Rel : State K V P S R → State K V P S R → Type 0)
      (old new : Front K V P S R) : Type 0 where
    pub parts : List (State K V P S R)
    pub each : CallsEach Rel old.parts parts
    pub changed : new ≡ passed now step (record old { parts = parts })

  -- the part of a hash
  abbrev pub part_by_hash : Front K V P S R → ℕ → Option (State K V P S R)
  part_by_hash f hash = slice_get f.parts (part_of f.bits hash)

  -- what the front keeps, if keys are hashed like this
  pub record IsSteady (eq : K → K → Bool) (hash : K → ℕ) (f : Front K V P S R) : Type 0 where
    -- each part, to which the keys belong whose hash leads to it
    pub kept : (place : ℕ) (s : State K V P S R) → slice_get f.parts place ≡ Some s
        → IsKept 63 eq f.common (λ key. part_of f.bits (hash key) == place) f.moment f.step s
    pub count : length f.parts ≡ 2 ^ f.bits
    pub few : f.bits ≤ 16
    pub share : f.common.settings.capacity ≡ option_map (share_of (length f.parts)) f.capacity
    pub turns : AreTurns eq hash f.next_turn f.turns
