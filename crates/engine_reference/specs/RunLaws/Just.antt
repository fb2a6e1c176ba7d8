-- Why a run removes what it removes.
use Rattle.std.specs.Prelude.{◌≡◌, ℕ, true, List, [], ◌∷◌, Some}
use Rattle.engine_reference.specs.declared.rules.causes.RemovalCause.{RemovalCause}
use Rattle.engine_reference.specs.declared.rules.causes.RemovalCause.TheVariants as cause
use Rattle.engine_reference.specs.declared.data.Entry.{Entry}
use Rattle.engine_reference.specs.Runs.{Runs}
use Rattle.engine_reference.specs.State.{State, Answers}
use Rattle.engine_reference.specs.Telling.{Removal, Tells}
use Rattle.engine_reference.specs.Times.{has_come}
use Rattle.engine_reference.specs.Visible.{is_covered}
use Rattle.engine_reference.specs.Soundness.{Each}
use Rattle.engine_reference.specs.declared.data.Record.{Record}
use Rattle.engine_reference.specs.Records.{record_at}
use Rattle.engine_reference.specs.RunLaws.Points.{IsInOrder, IsPointed}

module _ {K V : Type 0} where
  -- the record as it was in an earlier list, except for what maintenance knows of it
  pub record ComesFrom (rs : List (Record K V)) (r : Record K V) : Type 0 where
    pub owner : Record K V
    pub there : record_at rs owner.number ≡ Some owner
    pub number : owner.number ≡ r.number
    pub entry : owner.entry ≡ r.entry
    pub held : owner.is_held ≡ r.is_held

  -- of each removal, by its cause and its entry
  abbrev pub EachRemoval : (RemovalCause → Entry K V → Type 0) → List (Removal K V) → Type 0
  EachRemoval Q [] = Unit {0}
  EachRemoval Q (gone ∷ removals) = Q gone.cause gone.entry × EachRemoval Q removals

module _ {K V P S R : Type 0} (answers : Answers K V P R) (now : ℕ) (old : State K V P S R) where
  -- a cause is just for an entry that was held as the run began: its deadline has come, it is covered, or its removal for weight has a
  -- point
  abbrev pub IsJust : RemovalCause → Entry K V → Type 0
  IsJust cause.Expired e = has_come old.settings now e ≡ true
  IsJust cause.Explicit e = is_covered answers old e ≡ true
  IsJust cause.Replaced e = ⊥
  IsJust cause.Size e = IsPointed old e

-- what a run reports is just, and what stays was there before it
pub record RunTells {K V P S R : Type 0} (answers : Answers K V P R) (now : ℕ)
    (old new : State K V P S R) : Type 0 where
  pub removals : List (Removal K V)
  pub tells : Tells old removals new
  pub just : EachRemoval (IsJust answers now old) removals
  pub comes : Each (ComesFrom old.records) new.records

module _ (K V P S R : Type 0) where
  abbrev pub RunTellsJustly : Type 0
  RunTellsJustly =
      (answers : Answers K V P R) (now : ℕ) (old new : State K V P S R) → IsInOrder old
      → Runs answers now old new → RunTells answers now old new
