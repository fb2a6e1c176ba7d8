-- Stretches of a run.
use Rattle.std.specs.Prelude.{ℕ, List}
use Rattle.engine_reference.specs.Runs.{Step, Steps}
use Rattle.engine_reference.specs.State.{State, Answers}

module _ {K V P S R : Type 0} (answers : Answers K V P R) where
  -- steps of a run lead from one state to another
  pub record Stretch (now : ℕ) (old new : State K V P S R) : Type 0 where
    pub stages : List (State K V P S R)
    pub steps : Steps answers now old stages new

  abbrev pub StepsFor : ℕ → State K V P S R → State K V P S R → Type 0
  StepsFor now old new = Step answers now old new
