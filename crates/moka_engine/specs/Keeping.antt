-- What holds for every cache, and what the second half of a look-up does to it.
use Rattle.std.specs.Prelude.{◌≡◌, ℕ, Option}
use Rattle.engine_reference.specs.declared.data.Record.{Record}
use Rattle.engine_reference.specs.Calls.{MaintainsIfDue, with_read}
use Rattle.engine_reference.specs.Soundness.{IsSound}
use Rattle.engine_reference.specs.State.{State, Answers}
use Rattle.engine_calls.specs.Bounds.{AreBounded}

-- it is sound, and its records are within bounds
pub record IsWellKept {K V P S R : Type 0} (s : State K V P S R) : Type 0 where
  pub sound : ∥ IsSound s ∥₁
  pub bounded : AreBounded s

-- maintenance runs if it is due, and then the read of what was found waits to be counted
pub record NotesRead {K V P S R : Type 0} (answers : Answers K V P R) (found : Option (Record K V))
    (hash now : ℕ) (old new : State K V P S R) : Type 0 where
  pub mid : State K V P S R
  pub maintains : MaintainsIfDue answers now old mid
  pub reads : new ≡ with_read answers found hash now mid
