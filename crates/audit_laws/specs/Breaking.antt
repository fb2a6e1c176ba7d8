-- The first record that breaks a rule, by situations alone.
use Rattle.std.specs.Prelude.{ℕ, suc, ◌<◌, ◌≤◌, length, take, List, [], ◌∷◌, ◌++◌, Option, Some, None, if◌then◌else◌}
use Rattle.std.specs.Option.{option_map_or}
use Rattle.audit_model.specs.Belongs.{IsAdmitted}
use Rattle.audit_model.specs.Follows.{after_record}
use Rattle.audit_model.specs.History.{Value}
use Rattle.audit_model.specs.Obeys.{Obeys, agree_on_parts}
use Rattle.audit_model.specs.Situation.{Situation}
use Rattle.audit_model.specs.declared.config.Config.{Config}
use Rattle.audit_model.specs.declared.transcript.Record.{Record}
use Rattle.audit_model.specs.declared.transcript.Transcript.{Transcript}
use Rattle.audit_laws.specs.Placing.{accepted_in}

-- the number of the first record that does not follow, or with which a key has two parts; n records came before, which accepted these values
abbrev pub first_break_from : Config → Situation → List Value → ℕ → List Record → Option ℕ
first_break_from config s values n [] = None
first_break_from config s values n (entry ∷ entries) =
    let more = values ++ accepted_in config s entry in
    option_map_or (λ t. if agree_on_parts more then first_break_from config t more (suc n) entries
    else Some (suc n)) (after_record config s entry) (Some (suc n))

-- the transcript obeys, and none of its events is refused
abbrev pub IsFaultless : Config → Transcript → Type 0
IsFaultless config transcript = Obeys config transcript × IsAdmitted config transcript

-- its first n records
abbrev pub transcript_front : ℕ → Transcript → Transcript
transcript_front n transcript = record transcript { records = take n transcript.records }

-- the first n records are the shortest front that has a fault
pub record BreaksFirstAt (config : Config) (transcript : Transcript) (n : ℕ) : Type 0 where
  pub above : 0 < n
  pub within : n ≤ length transcript.records
  pub faulty : ¬ IsFaultless config (transcript_front n transcript)
  pub before : (m : ℕ) → m < n → IsFaultless config (transcript_front m transcript)
