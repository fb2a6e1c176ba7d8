-- What a store over a front contains, and what the front's calls do to it.
use Rattle.std.specs.Prelude.{◌≡◌, ℕ, suc, ◌+◌, ◌%◌, ◌^◌, ◌≤◌, Bool, List, Some, slice_get}
use Rattle.std.specs.declared.hash.BuildHasher as builders
use Rattle.std.specs.declared.hash.Hasher as hashers
use Rattle.rand_core.specs.Stream.{Stream}
use Rattle.audit_model.specs.Bytewise.{same}
use Rattle.audit_model.specs.declared.config.Config.{Config}
use Rattle.audit_model.specs.declared.config.Weight.{Weight}
use Rattle.audit_model.specs.declared.transcript.Note.{Note}
use Rattle.cache_front.specs.declared.entries.hasher.WordBuilder.{WordBuilder}
use Rattle.cache_front.specs.declared.entries.hasher.WordHasher.{WordHasher}
use Rattle.cache_front.specs.State.{hash_by, store_of}
use Rattle.cache_front.specs.Parts.{Part, Stored, service_answers}
use Rattle.cache_front.specs.View.{StoreOfParts, view}
use Rattle.cache_commands.specs.Values.{Values}
use Rattle.front_reference.specs.Fronts.{CallsPart, Front}
use Rattle.front_reference.specs.Parts.{Inserts, TakesOut}
use Rattle.front_state.specs.Covering.{CoversAll}

-- the hash of the bytes of a key, from the traits of a hasher and its builder
abbrev pub hash_with : {S H : Type 0} → builders.Ghosts S H → hashers.Ghosts H → S → List ℕ → ℕ
hash_with b h = hash_by h.finish h.write b.build_hasher

-- the same if it is a 64-bit number by its definition
abbrev pub word_of : {S H : Type 0} → builders.Ghosts S H → hashers.Ghosts H → WordBuilder S
    → List ℕ → ℕ
word_of {S} {H} b h =
    hash_by (λ (x : WordHasher H). h.finish x.inner % 2 ^ 64) (λ (x : WordHasher H) bytes. record {
      inner = h.write x.inner bytes;
    }) (λ (x : WordBuilder S). record { inner = b.build_hasher x.inner })

-- Its configuration and the moment of its creation, whether a `DROPIF` was accepted, the notes reported and not taken, what the generator
-- of identifiers will give, and the front. `S` builds the hashers of its keys.
pub record FrontData (S : Type 0) : Type 0 where
  pub config : Config
  pub made : ℕ
  pub dropped : Bool
  pub queue : List Note
  pub stream : Stream
  pub front : Front (List ℕ) Stored (List ℕ) S Weight

-- the same with the generator itself
pub record StoreData (R S : Type 0) : Type 0 where
  pub config : Config
  pub made : ℕ
  pub dropped : Bool
  pub queue : List Note
  pub generator : R
  pub front : Front (List ℕ) Stored (List ℕ) S Weight

abbrev pub data_of : {R S : Type 0} → (R → Stream) → StoreData R S → FrontData S
data_of stream d =
    record {
      config = d.config;
      made = d.made;
      dropped = d.dropped;
      queue = d.queue;
      stream = stream d.generator;
      front = d.front;
    }

module _ {S : Type 0} (hash : S → List ℕ → ℕ) where
  -- the store of its front's parts, with keys hashed like this
  abbrev pub parted_by : FrontData S → StoreOfParts S
  parted_by d = store_of hash d.config d.made d.dropped d.queue d.stream d.front

  -- ---- calls of a front, at the step of the last one

  -- a value is inserted
  abbrev pub InsertsBy : (key : List ℕ) → Stored → (now : ℕ)
      → (old new : Front (List ℕ) Stored (List ℕ) S Weight) → Type 0
  InsertsBy key value now old new =
      CallsPart (hash old.common.hasher key) now old.step
      (Inserts service_answers same key (hash old.common.hasher key) value now old.step) old new

  -- a key is removed
  abbrev pub TakesOutBy : (key : List ℕ) → (now : ℕ)
      → (old new : Front (List ℕ) Stored (List ℕ) S Weight) → Type 0
  TakesOutBy key now old new =
      CallsPart (hash old.common.hasher key) now old.step (TakesOut service_answers same key now)
      old new

module _ {S : Type 0} where
  -- each part draws an identifier, and a prefix is registered in all of them at the next step
  abbrev pub CoversBy : (prefix : List ℕ) → (now : ℕ) → (drawn left : Stream)
      → (old new : Front (List ℕ) Stored (List ℕ) S Weight) → Type 0
  CoversBy prefix now drawn left old new = (id : ℕ) × CoversAll prefix (record {
    now = now;
    step = suc old.step;
  }) drawn left id old new

-- what a store with this content shows
abbrev pub shown_by : {R S H : Type 0} → builders.Ghosts S H → hashers.Ghosts H → (R → Stream)
    → StoreData R (WordBuilder S) → Values
shown_by b h stream d = view (parted_by (word_of b h) (data_of stream d))

-- in one part the 64-bit tickets do not suffice for two more
abbrev pub LackTickets : {S : Type 0} → List (Part S) → Type 0
LackTickets {S} parts =
    (place : ℕ) × (s : Part S) × (slice_get parts place ≡ Some s)
    × (2 ^ 64 ≤ s.next_ticket + s.reserved + 2)
