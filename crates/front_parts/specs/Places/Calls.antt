-- What a call does to a front, in terms of the part that its key belongs to.
use Rattle.std.specs.Prelude.{◌≡◌, ℕ, ◌+◌, ◌^◌, ◌≤◌, Bool, false, List, [], Option, Some, None, Result, Ok, option_map}
use Rattle.std.specs.declared.hash.Hasher as hashers
use Rattle.std.specs.declared.hash.BuildHasher as builders
use Rattle.engine_reference.specs.Rules.Hashing.{hash_of_key}
use Rattle.engine_reference.specs.declared.rules.rules.Rules as rules
use Rattle.engine_reference.specs.Records.{held_at}
use Rattle.engine_reference.specs.Scanning.{NotesLookUp, held_keys, past}
use Rattle.engine_reference.specs.State.{State, Answers}
use Rattle.engine_reference.specs.Visible.{visible_value}
use Rattle.engine_reference.specs.declared.data.Settings.{Settings}
use Rattle.front_reference.specs.Fronts.{Front, CallsPart, IsSteady, part_by_hash}
use Rattle.front_reference.specs.Parts.{Coalesces, Computes, Inserts, TakesOut, held_value}
use Rattle.front_reference.specs.declared.data.At.{At}
use Rattle.front_reference.specs.declared.data.Computed.{Computed}
use Rattle.front_reference.specs.declared.data.Made.{Made}
use Rattle.front_reference.specs.declared.data.Op.{Op}
use Rattle.front_reference.specs.declared.errors.CacheError.{CacheError}
use Rattle.front_reference.specs.declared.errors.CacheError.TheVariants as errors

-- the results of rules, which keys are equal, and how a hasher hashes a key
pub record Ways (K V P S R : Type 0) : Type 0 where
  pub answers : Answers K V P R
  pub eq : K → K → Bool
  pub hash : S → K → ℕ

-- the same, from the traits of rules, hashers and their builders
abbrev pub ways_by : {K V P F S R H : Type 0} → rules.Ghosts R K V P F → (K → K → Bool)
    → (K → List (List ℕ)) → builders.Ghosts S H → hashers.Ghosts H → Ways K V P S R
ways_by r eq hash_input b h = record {
  answers = r.answers;
  eq = eq;
  hash = hash_of_key h.finish h.write b.build_hasher hash_input;
}

module _ {K V P S R : Type 0} where
  -- the keys that a part holds
  abbrev pub keys_of : Option (State K V P S R) → List K
  keys_of None = []
  keys_of (Some s) = held_keys s.records

module _ {K V P S R : Type 0} (ways : Ways K V P S R) where
  -- what a front keeps between calls
  abbrev pub IsSteadyBy : Front K V P S R → Type 0
  IsSteadyBy f = IsSteady ways.eq (ways.hash f.common.hasher) f

  -- the hash of a key
  abbrev pub hash_in : Front K V P S R → K → ℕ
  hash_in f key = ways.hash f.common.hasher key

  -- the part that a key belongs to
  abbrev pub part_with : Front K V P S R → K → Option (State K V P S R)
  part_with f key = part_by_hash f (hash_in f key)

  -- the value of a key that is visible in a part
  abbrev pub visible_of : Option (State K V P S R) → (now : ℕ) → K → Option V
  visible_of None now key = None
  visible_of (Some s) now key = visible_value ways.answers ways.eq s now key

  abbrev pub visible_in : Front K V P S R → (now : ℕ) → K → Option V
  visible_in f now key = visible_of (part_with f key) now key

  -- the test is called on what is visible of a key in a part
  abbrev pub AsksOf : Option (State K V P S R) → (now : ℕ) → K → (Ignores : V → Bool → Type 0)
      → (ignored : Bool) → Type 0
  AsksOf o now key Ignores ignored =
      (value : V) → visible_of o now key ≡ Some value → Ignores value ignored

  -- the same for the first of two results
  abbrev pub IsAskedFirst : Option (State K V P S R) → (now : ℕ) → K → (Ignores : V → Bool → Type 0)
      → Bool × Option V → Type 0
  IsAskedFirst o now key Ignores answer = AsksOf o now key Ignores answer.0

  -- what is visible of it and not passed over
  abbrev pub seen_of : Option (State K V P S R) → (now : ℕ) → K → (ignored : Bool) → Option V
  seen_of o now key ignored = past ignored (visible_of o now key)

  -- the one that is held, visible or not
  abbrev pub held_in_part : Option (State K V P S R) → K → Option V
  held_in_part None key = None
  held_in_part (Some s) key = held_value ways.eq s key

  abbrev pub held_value_in : Front K V P S R → K → Option V
  held_value_in f key = held_in_part (part_with f key) key

  -- the key that is held and equal to a key, whether its value is visible or not
  abbrev pub held_key_of : Option (State K V P S R) → K → Option K
  held_key_of None key = None
  held_key_of (Some s) key = option_map (λ r. r.entry.key) (held_at ways.eq s.records key)

  abbrev pub held_key_in : Front K V P S R → K → Option K
  held_key_in f key = held_key_of (part_with f key) key

  -- the 64-bit tickets do not suffice in a part for this much room
  abbrev pub LacksTickets : (rooms : Settings → ℕ) → Option (State K V P S R) → Type 0
  LacksTickets rooms None = ⊥
  LacksTickets rooms (Some s) = 2 ^ 64 ≤ s.next_ticket + s.reserved + rooms s.settings

  -- why a call on a part that needs this much room is refused
  abbrev pub IsCauseOf : (rooms : Settings → ℕ) → Option (State K V P S R) → CacheError → Type 0
  IsCauseOf rooms o errors.OutOfMemory = Unit {0}
  IsCauseOf rooms o errors.UsedUp = LacksTickets rooms o
  IsCauseOf rooms o other = ⊥

  abbrev pub IsCauseIn : (rooms : Settings → ℕ) → Front K V P S R → K → CacheError → Type 0
  IsCauseIn rooms f key e = IsCauseOf rooms (part_with f key) e

  -- a call comes to the part of a key, under its hash
  abbrev pub CallsKey : K → At → (ℕ → State K V P S R → State K V P S R → Type 0) → Front K V P S R
      → Front K V P S R → Type 0
  CallsKey key at does old new =
      CallsPart (hash_in old key) at.now at.step (does (hash_in old key)) old new

  -- a look-up, which is a use of what is visible
  abbrev pub LooksUpIn : K → At → Front K V P S R → Front K V P S R → Type 0
  LooksUpIn key at =
      CallsKey key at (λ hash. NotesLookUp ways.answers ways.eq key hash at.now false)

  -- a value is inserted
  abbrev pub InsertsIn : K → V → At → Front K V P S R → Front K V P S R → Type 0
  InsertsIn key value at =
      CallsKey key at (λ hash. Inserts ways.answers ways.eq key hash value at.now at.step)

  -- a key is removed
  abbrev pub TakesOutIn : K → At → Front K V P S R → Front K V P S R → Type 0
  TakesOutIn key at = CallsKey key at (λ hash. TakesOut ways.answers ways.eq key at.now)

  -- a coalesced call, by what its closures may return: its result, and whether that was made now
  abbrev pub CoalescesIn : {F : Type 0} → K → At → (Ignores : V → Bool → Type 0)
      → (Makes : Made V F → Type 0) → Front K V P S R → Front K V P S R → Made V F
      → (is_fresh : Bool) → Type 0
  CoalescesIn key at Ignores Makes old new answer is_fresh =
      CallsKey key at (λ hash s t. Coalesces ways.answers ways.eq key hash at.now at.step Ignores
      Makes s t answer is_fresh) old new

  -- the same, by what the closure that makes a value returns
  abbrev pub CoalescesBy : {F E : Type 0} → K → At → (Ignores : V → Bool → Type 0)
      → (Makes : Result (Made V F) E → Type 0) → Front K V P S R → Front K V P S R → Made V F × Bool
      → Type 0
  CoalescesBy key at Ignores Makes old new answer =
      CoalescesIn key at Ignores (λ made. Makes (Ok made)) old new answer.0 answer.1

  -- a compute call, by what its closure may decide
  abbrev pub ComputesIn : {E : Type 0} → K → At → (Decides : Option V → Result (Op V) E → Type 0)
      → Front K V P S R → Front K V P S R → Result (Computed V) E → Type 0
  ComputesIn key at Decides old new answer =
      CallsKey key at
      (λ hash s t. Computes ways.answers ways.eq key hash at.now at.step Decides s t answer) old
      new
