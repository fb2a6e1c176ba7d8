-- What evictions within a run remove.
use Rattle.std.specs.Prelude.{◌≡◌, ◌-◌, ◌≤◌, ℕ, true, false, List, [], ◌∷◌, ◌++◌, map, Some}
use Rattle.engine_reference.specs.declared.rules.causes.RemovalCause.TheVariants as cause
use Rattle.engine_reference.specs.declared.data.Record.{Record}
use Rattle.engine_reference.specs.Admission.{shortest_front}
use Rattle.engine_reference.specs.Records.{record_at, without_record, without, admitted_weight, settled_in}
use Rattle.engine_reference.specs.Runs.{IsApplied, Steps, Runs}
use Rattle.engine_reference.specs.Soundness.{IsSound}
use Rattle.engine_reference.specs.State.{State, Answers}
use Rattle.engine_reference.specs.Telling.{Removal, notices_of}
use Rattle.engine_reference.specs.Times.{has_come}
use Rattle.engine_reference.specs.Visible.{is_covered}

module _ {K V : Type 0} where
  -- the records and the access list without these
  abbrev pub without_records : List (Record K V) → List (Record K V) → List (Record K V)
  without_records [] rs = rs
  without_records (v ∷ vs) rs = without_records vs (without_record v.number rs)

  abbrev pub without_numbers : List (Record K V) → List ℕ → List ℕ
  without_numbers [] ns = ns
  without_numbers (v ∷ vs) ns = without_numbers vs (without v.number ns)

  -- they are removed for weight
  abbrev pub for_size : List (Record K V) → List (Removal K V)
  for_size vs = map (λ v. record { cause = cause.Size; entry = v.entry }) vs

module _ {K V P S R : Type 0} (answers : Answers K V P R) where
  -- nothing that is held is past its deadline or covered
  pub record NothingIsDue (now : ℕ) (s : State K V P S R) : Type 0 where
    pub alive : (r : Record K V) → record_at s.records r.number ≡ Some r → r.is_held ≡ true
        → has_come s.settings now r.entry ≡ false
    pub uncovered : (r : Record K V) → record_at s.records r.number ≡ Some r → r.is_held ≡ true
        → is_covered answers s r.entry ≡ false

module _ {K V P S R : Type 0} where
  -- the shortest front of the settled records that reaches the excess was evicted and reported; everything else stays
  pub record EvictsFront (capacity : ℕ) (old new : State K V P S R) : Type 0 where
    pub victims : List (Record K V)
    pub front : shortest_front (admitted_weight old.records - capacity)
        (settled_in old.records old.access) ≡ Some victims
    pub records : new.records ≡ without_records victims old.records
    pub access : new.access ≡ without_numbers victims old.access
    pub notices : new.notices ≡ old.notices ++ notices_of old.settings.tells (for_size victims)

module _ (K V P S R : Type 0) where
  -- `before` are the first steps of the run, which lead to `mid`
  abbrev pub RunsEvictShortestFront : Type 0
  RunsEvictShortestFront =
      (answers : Answers K V P R) (now : ℕ) (old mid new : State K V P S R)
      (run : Runs answers now old new) (before after : List (State K V P S R)) (capacity : ℕ)
      → IsSound old → run.stages ≡ before ++ after → Steps answers now old before mid
      → IsApplied mid → NothingIsDue answers now mid
      → mid.settings.capacity ≡ Some capacity → admitted_weight new.records ≤ capacity
      → EvictsFront capacity mid new
