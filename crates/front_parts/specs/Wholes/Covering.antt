-- A predicate that is registered in all parts, and why it is registered in none.
use Rattle.std.specs.Prelude.{◌≡◌, ℕ, ◌+◌, ◌^◌, ◌<◌, ◌≤◌, true, List, [], ◌∷◌, Some, slice_get, slice_index_or}
use Rattle.std.specs.Int.{to_be_bytes, w128}
use Rattle.uuid.specs.Text.{hyphenated_text, lower}
use Rattle.rand_core.specs.Stream.{Stream}
use Rattle.engine_reference.specs.Calls.{registered}
use Rattle.engine_reference.specs.State.{State}
use Rattle.front_reference.specs.Wholes.{DrawAll, DrawsInVain, registered_in}
use Rattle.front_reference.specs.declared.errors.CacheError.{CacheError}
use Rattle.front_reference.specs.declared.errors.CacheError.TheVariants as errors

-- each of a list is this one
abbrev pub AreOnly : {X : Type 0} → X → List X → Type 0
AreOnly x [] = Unit {0}
AreOnly x (y ∷ ys) = (y ≡ x) × AreOnly x ys

-- the text of an identifier: the hyphenated form of its 16 bytes, in lower case
unfoldable pub id_text : ℕ → List ℕ
id_text id = hyphenated_text lower (to_be_bytes w128 id)

module _ {K V P S R : Type 0} where
  -- each part takes predicates
  abbrev pub TakeAll : List (State K V P S R) → Type 0
  TakeAll parts =
      (place : ℕ) (s : State K V P S R) → slice_get parts place ≡ Some s
      → s.settings.takes_predicates ≡ true

  -- each part has room
  abbrev pub HaveRoom : List (State K V P S R) → Type 0
  HaveRoom parts =
      (place : ℕ) (s : State K V P S R) → slice_get parts place ≡ Some s → 0 < s.reserved

  -- one part has no room for one more, as the 64-bit tickets do not suffice
  abbrev pub SomeLacksTickets : List (State K V P S R) → Type 0
  SomeLacksTickets parts =
      (place : ℕ) × (s : State K V P S R) × (slice_get parts place ≡ Some s)
      × (2 ^ 64 ≤ s.next_ticket + s.reserved + 1)

  -- the predicate of the part at a place, under the identifier at its place, takes the room that was made for it
  abbrev pub commits : P → (step : ℕ) → List ℕ → ℕ → State K V P S R → State K V P S R
  commits predicate step ids place s = registered (record {
    id = slice_index_or ids place 0;
    predicate = predicate;
    step = step;
  }) s

  -- why no room is made for a predicate: there was no memory, or the tickets of a part do not suffice
  abbrev pub IsRoomCause : List (State K V P S R) → CacheError → Type 0
  IsRoomCause parts errors.OutOfMemory = Unit {0}
  IsRoomCause parts errors.UsedUp = SomeLacksTickets parts
  IsRoomCause parts other = ⊥

  -- why no part registers a predicate: there was no memory or the tickets of a part do not suffice, and nothing is drawn; or a part drew a thousand identifiers that are in use
  abbrev pub IsCoverCause : List (State K V P S R) → (old new : Stream) → CacheError → Type 0
  IsCoverCause parts old new errors.OutOfMemory = new ≡ old
  IsCoverCause parts old new errors.UsedUp = (new ≡ old) × SomeLacksTickets parts
  IsCoverCause parts old new errors.IdsInUse = DrawsInVain parts old new
  IsCoverCause parts old new other = ⊥

  -- all parts draw an identifier each, and register the predicate under it; the first identifier is returned
  pub record CoversEach (predicate : P) (step : ℕ) (drawn left : Stream) (first : ℕ)
      (old new : List (State K V P S R)) : Type 0 where
    pub ids : List ℕ
    pub draws : DrawAll old drawn left ids
    pub registers : new ≡ registered_in predicate step ids old
    pub first_is : slice_get ids 0 ≡ Some first
