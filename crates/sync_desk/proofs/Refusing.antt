-- Why a call of the state is refused, for the clauses on this.
use Rattle.std.proofs.Common.{◌≡◌, ℕ, Result, Ok, Err, IfErr, inr, subst}
use Rattle.std.specs.Result.{IsErrOf}
use Rattle.rand_core.specs.Stream.{Stream}
use Rattle.front_parts.specs.Places.Calls.{Ways}
use Rattle.front_parts.specs.Places.Turning.{IsFinishCause}
use Rattle.front_reference.specs.Fronts.{Front}
use Rattle.front_reference.specs.declared.errors.CacheError.{CacheError}
use Rattle.front_reference.specs.declared.errors.CacheError.TheVariants as errors
use Rattle.sync_desk.specs.Drawing.{IsCauseToCoverAsDrawn}
use Rattle.front_state.specs.Covering.{IsCauseToCover}

-- a predicate is refused by the state
pub refused_to_cover : {K V P S R T : Type 0} (f : Front K V P S R) (drawn left : Stream) (r : Result T CacheError) → IfErr r (IsCauseToCover f drawn left) → IfErr r (IsCauseToCoverAsDrawn drawn left f)
refused_to_cover f drawn left (Ok x) h = tt
refused_to_cover f drawn left (Err errors.OutOfMemory) h = h
refused_to_cover f drawn left (Err errors.UsedUp) h = (h.0, inr h.1)
refused_to_cover f drawn left (Err errors.InvalidationClosuresDisabled) h = h
refused_to_cover f drawn left (Err errors.IdsInUse) h = h
refused_to_cover f drawn left (Err errors.UnknownTurn) h = h
refused_to_cover f drawn left (Err errors.Abandoned) h = h

-- why a turn does not end
pub ending_used_up : {K V P S R T : Type 0} (ways : Ways K V P S R) (number : ℕ) (f : Front K V P S R) (e : CacheError)
    → IsFinishCause ways number f e → IsErrOf {T = T} (Err e) errors.UsedUp → IsFinishCause ways number f errors.UsedUp
ending_used_up ways number f e cause is = subst (λ r. IfErr r (IsFinishCause ways number f)) is cause
