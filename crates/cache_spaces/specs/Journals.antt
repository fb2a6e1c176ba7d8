-- The journals of a service that keeps them, and the state that a service has reached.
use Rattle.std.specs.Prelude.{◌≡◌, ℕ, List, Some, Option, IsTrue, map, ◌+◌, length, sum_by}
use Rattle.std.specs.List.{slice_get}
use Rattle.audit_model.specs.Belongs.{IsAdmitted}
use Rattle.audit_model.specs.Obeys.{Obeys}
use Rattle.audit_model.specs.Situation.{Situation}
use Rattle.audit_model.specs.declared.transcript.Transcript.{Transcript}
use Rattle.audit_laws.specs.Leading.{LeadsTo, LeadsBy}
use Rattle.cache_commands.specs.Recency.{IsPlainLru}
use Rattle.cache_lines.specs.Tape.Taped.{Taped}
use Rattle.cache_spaces.specs.Played.{journal_of, KeepsList}
use Rattle.cache_spaces.specs.Spaces.{Space, StandsFor, config_of, part_in}
use Rattle.cache_spaces.specs.Throughout.{HasExactKeys, is_bounded_throughout, is_timely_throughout}

-- what such a tape keeps
abbrev pub kept_by : Taped → Option Taped
kept_by t = Some t

-- the journals of the namespaces, in their order
abbrev pub journals_of : List (Space Taped) → List Transcript
journals_of spaces = map journal_of spaces

-- the journal leads to a situation for which the namespace stands
pub record LeadsSo {T : Type 0} (space : Space T) (journal : Transcript) : Type 0 where
  pub last : Situation
  pub stands : StandsFor space last
  pub leads : LeadsTo (config_of space) journal last

-- this is so for each namespace and its journal
abbrev pub IsSoOfEach : (Space Taped → Transcript → Type 0) → List (Space Taped) → Type 0
IsSoOfEach Fact spaces =
    (namespace : ℕ) (space : Space Taped) → slice_get spaces namespace ≡ Some space
    → Fact space (journal_of space)

-- The journal obeys, has no refused event, and leads to where the namespace stands. Each of its `SYNC`s left timely values, and after each
-- event each part was within its bound. Under a plain LRU policy each `SYNC` right after a command left exactly the keys of the recency
-- list, and if its steps are commands of such a list, each followed at once by a `SYNC`, the keys of that list are held.
pub record IsJournalOf (space : Space Taped) (journal : Transcript) : Type 0 where
  pub obeys : Obeys (config_of space) journal
  pub admitted : IsAdmitted (config_of space) journal
  pub leads : ∥ LeadsSo space journal ∥₁
  pub timely : IsTrue (is_timely_throughout (config_of space) journal)
  pub bounded : IsTrue (is_bounded_throughout (config_of space) journal)
  pub exact : (places : ℕ) → IsPlainLru (config_of space) places
      → ∥ HasExactKeys (config_of space) places journal ∥₁
  pub recent : (places : ℕ) → IsPlainLru (config_of space) places
      → ∥ KeepsList (config_of space) places journal ∥₁

-- The state that a service has reached, whether or not it keeps its journals.

-- how many records the journals have in total
abbrev pub record_count : List Transcript → ℕ
record_count journals = sum_by (λ journal. length journal.records) journals

module _ {T : Type 0} where
  -- the journal obeys, none of its events is refused, it leads to a situation for which the namespace stands, and each key keeps to its part
  pub record IsJournal (space : Space T) (journal : Transcript) : Type 0 where
    pub obeys : Obeys (config_of space) journal
    pub admitted : IsAdmitted (config_of space) journal
    pub leads : LeadsSo space journal
    pub parted : LeadsBy (config_of space) (part_in space) journal leads.last

  -- one journal for each namespace, in their order
  pub record AreJournals (spaces : List (Space T)) (journals : List Transcript) : Type 0 where
    pub count : length journals ≡ length spaces
    pub each : (namespace : ℕ) (space : Space T) (journal : Transcript)
        → slice_get spaces namespace ≡ Some space → slice_get journals namespace ≡ Some journal
        → IsJournal space journal

  -- some journals with this many records lead here
  pub record IsReached (spaces : List (Space T)) (events : ℕ) : Type 0 where
    pub journals : List Transcript
    pub are : AreJournals spaces journals
    pub count : record_count journals ≡ events

  -- an input was taken: where journals led before, journals with one more record lead now
  abbrev pub IsOneFurther : List (Space T) → List (Space T) → Type 0
  IsOneFurther old new =
      (events : ℕ) → ∥ IsReached old events ∥₁ → ∥ IsReached new (events + 1) ∥₁

  -- no input was taken: where journals led before, journals with as many records lead now
  abbrev pub IsWhereItWas : List (Space T) → List (Space T) → Type 0
  IsWhereItWas old new = (events : ℕ) → ∥ IsReached old events ∥₁ → ∥ IsReached new events ∥₁
