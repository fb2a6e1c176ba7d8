-- Which records a scan for predicates removes.
use Rattle.std.specs.Prelude.{◌≡◌, ℕ, ◌<◌, Bool, true, false, ◌&&◌, List, [], ◌∷◌, Option, Some, None}
use Rattle.engine_reference.specs.declared.data.Record.{Record}
use Rattle.engine_reference.specs.declared.data.Registered.{Registered}
use Rattle.engine_reference.specs.Records.{record_at}
use Rattle.engine_reference.specs.Runs.{covers_none}
use Rattle.engine_reference.specs.State.{State, Answers}
use Rattle.engine_reference.specs.Visible.{is_covered}
use Rattle.engine_cells.specs.Kept.{Kept, kept_at}

module _ {K V P R : Type 0} (answers : Answers K V P R) where
  -- these predicates cover none of these records that is held
  abbrev pub EachCoversNone : R → List (Record K V) → List (Registered P) → Type 0
  EachCoversNone rules rs [] = Unit {0}
  EachCoversNone rules rs (p ∷ ps) =
      (covers_none answers rules p rs ≡ true) × EachCoversNone rules rs ps

module _ {K V P S R : Type 0} (answers : Answers K V P R) where
  -- there is a record, and it is held and covered
  abbrev pub is_covered_as : State K V P S R → Option (Record K V) → Bool
  is_covered_as s None = false
  is_covered_as s (Some r) = r.is_held && is_covered answers s r.entry

  -- no place below this one has a held record that is covered
  abbrev pub IsScanned : ℕ → Kept K V P S R → Type 0
  IsScanned below t = (i : ℕ) → i < below → is_covered_as t.state (kept_at t i) ≡ false

  -- no held record is covered
  abbrev pub NoneIsCovered : State K V P S R → Type 0
  NoneIsCovered s =
      (r : Record K V) → record_at s.records r.number ≡ Some r → is_covered_as s (Some r) ≡ false

  -- no predicate covers any that is held
  abbrev pub CoverNone : State K V P S R → Type 0
  CoverNone s = EachCoversNone answers s.rules s.records s.predicates
