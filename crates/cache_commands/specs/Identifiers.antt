-- The identifiers of predicates: a generator draws them, and each part registers its own.
use Rattle.std.specs.Prelude.{◌≡◌, ℕ, zero, suc, ◌+◌, ◌<◌, ◌≤◌, Bool, ◌||◌, List, IsTrue}
use Rattle.audit_model.specs.Bytewise.{same}
use Rattle.rand_core.specs.Stream.{Stream, fill_bytes}
use Rattle.uuid.specs.Parts.{v4_of_fill}

-- the identifier that a generator draws next, from 16 random bytes, and the rest of the stream
abbrev pub next_drawn : Stream → List ℕ × Stream
next_drawn stream = v4_of_fill (fill_bytes 16 stream)

-- the rest of the stream after this many identifiers were drawn
abbrev pub stream_left : ℕ → Stream → Stream
stream_left zero stream = stream
stream_left (suc n) stream = (next_drawn (stream_left n stream)).1

-- the identifier that is drawn after this many others
abbrev pub identifier_after : ℕ → Stream → List ℕ
identifier_after n stream = (next_drawn (stream_left n stream)).0

-- which identifiers are registered in a part
abbrev pub Register : Type 0
Register = ℕ → List ℕ → Bool

-- none is drawn, and none is registered that was not before
pub record KeepsIdentifiers (old_stream new_stream : Stream) (old new : Register) : Type 0 where
  pub stream : new_stream ≡ old_stream
  pub registered : (part : ℕ) (id : List ℕ) → IsTrue (new part id) → IsTrue (old part id)

-- identifiers are drawn, and each part registers at most one of them
pub record Registers (old_stream new_stream : Stream) (old new : Register) : Type 0 where
  pub number : ℕ
  pub stream : new_stream ≡ stream_left number old_stream
  pub registered : (part : ℕ) → (place : ℕ) × (place < number) × ((id : List ℕ)
      → IsTrue (new part id) → IsTrue (old part id || same id (identifier_after place old_stream)))

-- identifiers are drawn, and none is registered that was not before
pub record DrawsAlone (old_stream new_stream : Stream) (old new : Register) : Type 0 where
  pub number : ℕ
  pub stream : new_stream ≡ stream_left number old_stream
  pub registered : (part : ℕ) (id : List ℕ) → IsTrue (new part id) → IsTrue (old part id)

-- some identifiers are drawn, and then a thousand that are each registered in one and the same part
pub record AreUsedUp (parts : ℕ) (old_stream new_stream : Stream) (registered : Register) :
    Type 0 where
  pub part : ℕ
  pub is_part : part < parts
  pub first : ℕ
  pub number : ℕ
  pub thousand : number ≡ first + 1000
  pub stream : new_stream ≡ stream_left number old_stream
  pub each : (n : ℕ) → first ≤ n → n < number
      → IsTrue (registered part (identifier_after n old_stream))
