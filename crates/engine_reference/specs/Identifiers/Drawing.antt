-- The identifiers of predicates: a generator draws them, and one that is registered is not used again.
use Rattle.std.specs.Prelude.{◌≡◌, ℕ, zero, suc, ◌<◌, ◌==◌, Bool, true, false, List, length, All}
use Rattle.std.specs.Int.{from_be_bytes, w128}
use Rattle.std.specs.List.{list_any}
use Rattle.rand_core.specs.Stream.{Stream, fill_bytes}
use Rattle.uuid.specs.Parts.{v4_of_fill}
use Rattle.engine_reference.specs.declared.data.Registered.{Registered}

-- the identifier that a generator draws next, from 16 random bytes, and the rest of the stream
abbrev pub drawn : Stream → List ℕ × Stream
drawn stream = v4_of_fill (fill_bytes 16 stream)

-- the rest of the stream after this many identifiers were drawn
abbrev pub stream_after : ℕ → Stream → Stream
stream_after zero stream = stream
stream_after (suc n) stream = (drawn (stream_after n stream)).1

-- the identifier that is drawn after this many others, as a number of 128 bits
abbrev pub identifier_at : ℕ → Stream → ℕ
identifier_at n stream = from_be_bytes w128 (drawn (stream_after n stream)).0

-- bytes, 16 of them
pub record AreSixteenBytes (bytes : List ℕ) : Type 0 where
  pub sixteen : length bytes ≡ 16
  pub each : All (λ b. b < 256) bytes

-- this many identifiers are 16 bytes each
abbrev pub AreIdentifiers : ℕ → Stream → Type 0
AreIdentifiers number stream =
    (n : ℕ) → n < number → AreSixteenBytes (drawn (stream_after n stream)).0

-- a predicate is registered under the identifier
abbrev pub is_registered : {P : Type 0} → List (Registered P) → ℕ → Bool
is_registered registered id = list_any (λ p. p.id == id) registered

-- this many identifiers were drawn, each of them registered
pub record DrawsSome (number : ℕ) (old new : Stream) (registered : ℕ → Bool) : Type 0 where
  pub stream : new ≡ stream_after number old
  pub each : (n : ℕ) → n < number → registered (identifier_at n old) ≡ true
  pub bytes : AreIdentifiers number old

-- fewer than a thousand were drawn, each of them registered, and then this one, which is not
pub record Draws (old new : Stream) (registered : ℕ → Bool) (id : ℕ) : Type 0 where
  pub place : ℕ
  pub few : place < 1000
  pub drawn : id ≡ identifier_at place old
  pub free : registered id ≡ false
  pub stream : new ≡ stream_after (suc place) old
  pub each : (n : ℕ) → n < place → registered (identifier_at n old) ≡ true
  pub bytes : AreIdentifiers (suc place) old

-- a thousand identifiers were drawn, each of them registered
pub record AreInUse (old new : Stream) (registered : ℕ → Bool) : Type 0 where
  pub number : ℕ
  pub thousand : number ≡ 1000
  pub drawn : DrawsSome number old new registered
