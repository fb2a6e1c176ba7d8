-- A predicate in two halves, in the first part of a front. A shard is a front of one part.
use Rattle.std.specs.Prelude.{◌≡◌, ◌<◌, ℕ, Some, slice_get}
use Rattle.rand_core.specs.Stream.{Stream}
use Rattle.engine_reference.specs.Identifiers.Drawing.{Draws, is_registered}
use Rattle.engine_reference.specs.State.{State}
use Rattle.engine_reference.specs.declared.rules.refusal.Refusal.{Refusal}
use Rattle.engine_reference.specs.declared.rules.refusal.Refusal.TheVariants as refusal
use Rattle.front_parts.specs.Wholes.Firsts.{changed_first}
use Rattle.front_reference.specs.Fronts.{Front}
use Rattle.front_reference.specs.declared.errors.CacheError.{CacheError}
use Rattle.front_reference.specs.declared.errors.CacheError.TheVariants as errors

module _ {K V P S R : Type 0} where
  -- the first part is changed, and nothing else
  abbrev pub with_first_part : (State K V P S R → State K V P S R) → Front K V P S R → Front K V P S R
  with_first_part change f = record f { parts = changed_first (λ _. change) 1 f.parts }

  -- an identifier is drawn that is not registered in the first part
  abbrev pub DrawsForFirst : (drawn left : Stream) → (id : ℕ) → Front K V P S R → Type 0
  DrawsForFirst drawn left id f =
      (s : State K V P S R) → slice_get f.parts 0 ≡ Some s
      → Draws drawn left (is_registered s.predicates) id

  -- the first part has room for a predicate
  abbrev pub FirstHasRoom : Front K V P S R → Type 0
  FirstHasRoom f = (s : State K V P S R) → slice_get f.parts 0 ≡ Some s → 0 < s.reserved

-- how calls of a front return that a part refuses a predicate
abbrev pub cover_error : Refusal → CacheError
cover_error refusal.InvalidationClosuresDisabled = errors.InvalidationClosuresDisabled
cover_error refusal.IdsInUse = errors.IdsInUse
cover_error refusal.UsedUp = errors.UsedUp
cover_error _ = errors.OutOfMemory
