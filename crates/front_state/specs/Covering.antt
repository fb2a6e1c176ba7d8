-- A predicate that is registered in all parts of a front, and why it is registered in none.
use Rattle.std.specs.Prelude.{◌≡◌, ℕ, false, List, length, slice_get}
use Rattle.rand_core.specs.Stream.{Stream}
use Rattle.engine_reference.specs.State.{State}
use Rattle.front_parts.specs.Places.Calls.{Ways, hash_in, keys_of}
use Rattle.front_reference.specs.Fronts.{Front, passed}
use Rattle.front_reference.specs.declared.data.At.{At}
use Rattle.front_reference.specs.declared.errors.CacheError.{CacheError}
use Rattle.front_reference.specs.declared.errors.CacheError.TheVariants as errors
use Rattle.front_reference.specs.Wholes.{HasGiven}
use Rattle.front_parts.specs.Wholes.Covering.{CoversEach, IsCoverCause}

module _ {K V P S R : Type 0} where
  -- all parts draw an identifier each and register the predicate under it, and nothing else changes but the moment and the step; the first
  -- identifier is returned
  pub record CoversAll (predicate : P) (at : At) (drawn left : Stream) (first : ℕ)
      (old new : Front K V P S R) : Type 0 where
    pub parts : List (State K V P S R)
    pub covers : CoversEach predicate at.step drawn left first old.parts parts
    pub changed : new ≡ passed at.now at.step (record old { parts = parts })

  -- why it is refused: the front takes no predicates, and nothing is drawn; or as parts refuse it
  abbrev pub IsCauseToCover : Front K V P S R → (drawn left : Stream) → CacheError → Type 0
  IsCauseToCover f drawn left errors.InvalidationClosuresDisabled =
      (left ≡ drawn) × (f.common.settings.takes_predicates ≡ false)
  IsCauseToCover f drawn left e = IsCoverCause f.parts drawn left e

  -- the keys that the part at a place holds
  abbrev pub keys_of_part : Front K V P S R → ℕ → List K
  keys_of_part f place = keys_of (slice_get f.parts place)

-- what an iterator returns that began at a moment, if it is called to its end: each key that is visible in any part, once, with its value,
-- and no other
abbrev pub GivesVisible : {K V P S R : Type 0} → Ways K V P S R → (now : ℕ) → Front K V P S R
    → List (K × V) → Type 0
GivesVisible ways now f given =
    HasGiven ways.answers ways.eq (λ key. hash_in ways f key) now f (length f.parts) given
