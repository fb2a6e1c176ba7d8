-- What was found in a part at a place, and why a call on it was refused.
use Rattle.std.proofs.Common.{◌≡◌, ap, sym, ◌∙◌, subst, ℕ, Bool, Option, Some}
use Rattle.engine_reference.specs.Scanning.{past}
use Rattle.engine_reference.specs.State.{State}
use Rattle.engine_reference.specs.Visible.{visible_value}
use Rattle.engine_reference.specs.declared.data.Settings.{Settings}
use Rattle.front_reference.specs.Parts.{IsCause}
use Rattle.front_reference.specs.declared.errors.CacheError.{CacheError}
use Rattle.front_reference.specs.declared.errors.CacheError.TheVariants as errors
use Rattle.front_parts.specs.Places.Calls.{Ways, IsCauseOf, LacksTickets, visible_of}

module _ {K V P S R : Type 0} (ways : Ways K V P S R) where
  pub caused : (rooms : Settings → ℕ) (o : Option (State K V P S R)) (s : State K V P S R) (e : CacheError) → o ≡ Some s → IsCause (rooms s.settings) s e → IsCauseOf ways rooms o e
  caused rooms o s errors.OutOfMemory is h = tt
  caused rooms o s errors.UsedUp is h = subst (λ x. LacksTickets ways rooms x) (sym is) h
  caused rooms o s errors.InvalidationClosuresDisabled is h = h
  caused rooms o s errors.IdsInUse is h = h
  caused rooms o s errors.UnknownTurn is h = h
  caused rooms o s errors.Abandoned is h = h

  pub found_by : (o : Option (State K V P S R)) (s : State K V P S R) (now : ℕ) (key : K) (ignored : Bool) (found : Option V) → o ≡ Some s → found ≡ past ignored (visible_value ways.answers ways.eq s now key) → found ≡ past ignored (visible_of ways o now key)
  found_by o s now key ignored found at is = is ∙ ap (λ x. past ignored (visible_of ways x now key)) (sym at)

  pub asked_by : (o : Option (State K V P S R)) (s : State K V P S R) (now : ℕ) (key : K) (Asks : V → Type 0) → o ≡ Some s → ((v : V) → visible_value ways.answers ways.eq s now key ≡ Some v → Asks v) → (v : V) → visible_of ways o now key ≡ Some v → Asks v
  asked_by o s now key Asks at asked v is = asked v (sym (ap (λ x. visible_of ways x now key) at) ∙ is)
