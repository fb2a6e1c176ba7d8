-- Settled records that are evicted for a newcomer, those used longest ago first.
use Rattle.std.specs.Prelude.{◌≡◌, ℕ, true, false, List, Option, Some, None, is_some}
use Rattle.engine_reference.specs.declared.rules.causes.RemovalCause.TheVariants as cause
use Rattle.engine_reference.specs.declared.data.Record.{Record}
use Rattle.engine_reference.specs.Admission.{shortest_front}
use Rattle.engine_reference.specs.Records.{settled_in}
use Rattle.engine_reference.specs.Runs.{all_left}
use Rattle.engine_reference.specs.State.{State}
use Rattle.engine_cells.specs.Kept.{Kept, kept_at}

module _ {K V P S R : Type 0} where
  abbrev pub without_victims : Option (List (Record K V)) → State K V P S R → State K V P S R
  without_victims None s = s
  without_victims (Some victims) s = all_left cause.Size victims s

  -- the shortest front of settled records that reaches a weight
  abbrev pub front_of : ℕ → State K V P S R → Option (List (Record K V))
  front_of weight s = shortest_front weight (settled_in s.records s.access)

  -- once that front has left
  abbrev pub displaced : ℕ → State K V P S R → State K V P S R
  displaced weight s = without_victims (front_of weight s) s

  -- records that do not count stay in their places
  abbrev pub KeepsUncounted : Kept K V P S R → Kept K V P S R → Type 0
  KeepsUncounted old new =
      (place : ℕ) (r : Record K V) → kept_at old place ≡ Some r → is_some r.counts ≡ false
      → kept_at new place ≡ Some r

  -- some of the front have left, and the others are to reach the rest of the weight
  pub record GivesWay (weight rest : ℕ) (old new : Kept K V P S R) : Type 0 where
    pub front : is_some (front_of rest new.state) ≡ true
    pub same : displaced rest new.state ≡ displaced weight old.state
    pub keeps : KeepsUncounted old new
