-- A look-up followed by an operation, and what that did.
use Rattle.std.specs.Prelude.{◌≡◌, ℕ, Bool, false, Option, Some, Result, Ok}
use Rattle.engine_reference.specs.State.{State, Answers}
use Rattle.engine_reference.specs.Records.{held_entries}
use Rattle.engine_reference.specs.Telling.{AreApart}
use Rattle.engine_reference.specs.Visible.{visible_value}
use Rattle.front_reference.specs.declared.data.At.{At}
use Rattle.front_reference.specs.declared.data.Computed.{Computed}
use Rattle.front_reference.specs.declared.data.Made.{Made}
use Rattle.front_reference.specs.declared.data.Op.{Op}
use Rattle.front_reference.specs.declared.data.Op.TheVariants as op
use Rattle.front_reference.specs.Parts.{Acts, Coalesces, IsReady, computed_as, held_value}

-- a call on a key may come to a part, which is as parts are between calls
pub record IsOpen {K V P S R : Type 0} (eq : K → K → Bool) (hash_by : S → K → ℕ) (key : K)
    (hash : ℕ) (s : State K V P S R) : Type 0 where
  pub hashed : hash ≡ hash_by s.hasher key
  pub ready : IsReady s
  pub apart : AreApart eq (held_entries s.records)

module _ {K V P S R : Type 0} (answers : Answers K V P R) where
  -- a coalesced call, by what the closure that makes a value returns: its result, and whether that was made now
  abbrev pub CoalescesPart : {F E : Type 0} → (eq : K → K → Bool) → K → (hash : ℕ) → At
      → (Ignores : V → Bool → Type 0) → (Makes : Result (Made V F) E → Type 0) → State K V P S R
      → State K V P S R → Made V F × Bool → Type 0
  CoalescesPart eq key hash at Ignores Makes old new answer =
      Coalesces answers eq key hash at.now at.step Ignores (λ made. Makes (Ok made)) old new
      answer.0 answer.1

  -- the key is removed after the look-up, and the value that is held then is returned
  pub record RemovesAfterLook (eq : K → K → Bool) (key : K) (hash now step : ℕ)
      (old new : State K V P S R) (removed : Option V) : Type 0 where
    pub acts : Acts answers eq key hash now step false op.Remove old new
    pub gives : removed ≡ held_value eq acts.mid key

  -- an operation is done after the look-up
  pub record OperatesAfterLook (eq : K → K → Bool) (key : K) (hash now step : ℕ) (does : Op V)
      (old new : State K V P S R) (done : Computed V) : Type 0 where
    pub acts : Acts answers eq key hash now step false does old new
    pub gives : done ≡ computed_as does (visible_value answers eq old now key)
        (held_value eq acts.mid key)
