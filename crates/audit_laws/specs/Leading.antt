-- Transcripts whose records follow one another from the empty situation.
use Rattle.std.specs.Prelude.{◌≡◌, ℕ, Bool, ◌==◌, List, Some, IsTrue}
use Rattle.std.specs.List.{list_all}
use Rattle.audit_model.specs.Follows.{after_records}
use Rattle.audit_model.specs.History.{Value}
use Rattle.audit_model.specs.Obeys.{accepted_values}
use Rattle.audit_model.specs.Places.{placed_steps}
use Rattle.audit_model.specs.Situation.{Situation, empty_situation}
use Rattle.audit_model.specs.declared.config.Config.{Config}
use Rattle.audit_model.specs.declared.transcript.Transcript.{Transcript}

-- the records lead from the empty situation to this one
abbrev pub LeadsTo : Config → Transcript → Situation → Type 0
LeadsTo config transcript s =
    after_records config (empty_situation transcript.made.nanos) transcript.records ≡ Some s

-- the value's part is the one that the function gives for its key
abbrev pub is_parted : (List ℕ → ℕ) → Value → Bool
is_parted part_of v = v.part == part_of v.key

-- the records lead there, and each accepted value's part is the one that the function gives for its key
pub record LeadsBy (config : Config) (part_of : List ℕ → ℕ) (transcript : Transcript)
    (s : Situation) : Type 0 where
  pub leads : LeadsTo config transcript s
  pub parted : IsTrue
      (list_all (is_parted part_of) (accepted_values (placed_steps config transcript)))
