-- How a call of any kind begins.
use Rattle.std.specs.Prelude.{◌≡◌, ℕ, Bool}
use Rattle.front_parts.specs.Places.Calls.{Ways}
use Rattle.front_parts.specs.Places.Turning.{BeginsIn, WaitsOrLeads}
use Rattle.front_reference.specs.Fronts.{Front}
use Rattle.front_reference.specs.Turns.{begun_compute}
use Rattle.front_reference.specs.declared.data.At.{At}
use Rattle.front_reference.specs.declared.data.TurnKind.{TurnKind}
use Rattle.front_reference.specs.declared.data.TurnKind.TheVariants.{Compute}
use Rattle.front_reference.specs.declared.data.TurnStart.{TurnStart}

module _ {K V P S R : Type 0} (ways : Ways K V P S R) where
  -- a compute call waits or leads, and looks nothing up; one that makes a value looks up first
  abbrev pub BeginsBy : TurnKind → K → (hash : ℕ) → At → (Ignores : V → Bool → Type 0)
      → Front K V P S R → Front K V P S R → TurnStart V → Type 0
  BeginsBy Compute key hash at Ignores old new start =
      (start, new) ≡ begun_compute ways.eq key hash at.now at.step old
  BeginsBy kind key hash at Ignores old new start =
      BeginsIn ways kind key hash at Ignores old new start

  -- the same where nothing is found, or is passed over
  abbrev pub StartsBy : TurnKind → K → (hash : ℕ) → At → (ignored : Bool) → Front K V P S R
      → Front K V P S R → TurnStart V → Type 0
  StartsBy Compute key hash at ignored old new start =
      (start, new) ≡ begun_compute ways.eq key hash at.now at.step old
  StartsBy kind key hash at ignored old new start =
      WaitsOrLeads ways kind key hash at ignored old new start
