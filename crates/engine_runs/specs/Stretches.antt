-- What a stretch of removals keeps, and what the rest of a run does.
use Rattle.std.specs.Prelude.{◌≡◌, ℕ, []}
use Rattle.engine_reference.specs.Soundness.{IsSound}
use Rattle.engine_reference.specs.Runs.{Runs, IsDone, IsSwept}
use Rattle.engine_reference.specs.State.{State, Answers}

module _ {K V P S R : Type 0} where
  -- what no removal changes
  pub record KeepsRest (old new : State K V P S R) : Type 0 where
    pub predicates : new.predicates ≡ old.predicates
    pub unsent : new.unsent ≡ old.unsent
    pub ran : new.ran ≡ old.ran
    pub settings : new.settings ≡ old.settings
    pub sketch : new.sketch ≡ old.sketch
    pub sound : IsSound old → IsSound new

module _ {K V P S R : Type 0} (answers : Answers K V P R) where
  -- the rest of an uncut run, from where the sketch's table was judged
  pub record EndsRun (now : ℕ) (old new : State K V P S R) : Type 0 where
    pub runs : Runs answers now old new
    pub done : IsDone new
    pub swept : old.unsent ≡ [] → IsSwept now old new
    pub sketch : new.sketch ≡ old.sketch
