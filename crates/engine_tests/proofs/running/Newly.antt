-- A cache that was just made is sound.
use Rattle.std.proofs.Common.{ℕ, List, Option}
use Rattle.std.specs.Prelude.{IfOk, Result, Ok, Err}
use Rattle.engine_reference.specs.declared.data.Settings.{Settings}
use Rattle.engine_reference.specs.Calls.{IsNew}
use Rattle.engine_reference.specs.Soundness.{IsSound}
use Rattle.engine_reference.specs.State.{State}
use Rattle.engine_reference.proofs.SoundCalls.{calls_stay_sound}
use Rattle.engine_cells.specs.Kept.{Kept}

module _ {K V P S R : Type 0} where
  new-sound : (name : Option (List ℕ)) (settings : Settings) (hasher : S) (rules : R) (s : State K V P S R) → IsNew name settings hasher rules s → ∥ IsSound s ∥₁
  new-sound name settings hasher rules s h = ∣ (calls_stay_sound K V P S R).empty s h.records h.access h.unsent h.writes ∣₁

  pub all-new_sound : {E : Type 0} (name : Option (List ℕ)) (settings : Settings) (hasher : S) (rules : R) (r : Result (Kept K V P S R) E) → IfOk r (λ made. IsNew name settings hasher rules made.state) → IfOk r (λ made. ∥ IsSound made.state ∥₁)
  all-new_sound name settings hasher rules (Ok made) h = new-sound name settings hasher rules made.state h
  all-new_sound name settings hasher rules (Err e) h = tt
