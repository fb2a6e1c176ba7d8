-- What compute calls answer.
use Rattle.std.proofs.Common.{◌≡◌, ap, sym, ◌∙◌, subst, ℕ, Bool, Option}
use Rattle.std.specs.Prelude.{Result, Ok}
use Rattle.engine_reference.specs.State.{State, Answers}
use Rattle.engine_reference.specs.Visible.{visible_value}
use Rattle.front_reference.specs.declared.data.Computed.{Computed}
use Rattle.front_reference.specs.declared.data.Op.{Op}
use Rattle.front_reference.specs.declared.data.Op.TheVariants as op
use Rattle.front_reference.specs.Parts.{Computes, computed_as}
use Rattle.front_parts.specs.Looking.{RemovesAfterLook, OperatesAfterLook}

module _ {K V P S R : Type 0} (answers : Answers K V P R) (eq : K → K → Bool) (key : K) (hash now step : ℕ) (old new : State K V P S R) where
  -- a removal
  pub removes-operates : (does : Op V) (removed : Option V) (done : Computed V) → does ≡ op.Remove → RemovesAfterLook answers eq key hash now step old new removed → ((seen : Option V) → done ≡ computed_as op.Remove seen removed)
      → OperatesAfterLook answers eq key hash now step does old new done
  removes-operates does removed done is r shown = subst (λ d. OperatesAfterLook answers eq key hash now step d old new done) (sym is) (record {
    acts = r.acts;
    gives = shown (visible_value answers eq old now key) ∙ ap (λ held. computed_as op.Remove (visible_value answers eq old now key) held) r.gives;
  })

  -- what a closure decided by the visible value was done
  pub operated-computes : {E : Type 0} (Decides : Option V → Result (Op V) E → Type 0) (seen : Option V) (does : Op V) (done : Computed V) → seen ≡ visible_value answers eq old now key → Decides seen (Ok does)
      → OperatesAfterLook answers eq key hash now step does old new done → Computes answers eq key hash now step Decides old new (Ok done)
  operated-computes Decides seen does done is decides o = record {
    decided = Ok does;
    decides = subst (λ s. Decides s (Ok does)) is decides;
    acts = o.acts;
    gives = ap (λ x. Ok x) o.gives;
  }
