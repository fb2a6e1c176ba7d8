-- Rows of values: shown while live, told once with a true cause, counted by `SYNC`.
use Rattle.std.specs.Prelude.{◌≡◌, [], ◌∷◌, Some, None, true}
use Rattle.audit_model.specs.declared.transcript.Transcript.{Transcript}
use Rattle.audit_model.specs.declared.transcript.RemovalCause.TheVariants.{Expired, Explicit, Replaced}
use Rattle.moka_audit_tests.specs.Model.Making.{text, opened, made_feed, says, takes, takes_second, tells, note, history, plain_config, of_two_parts, judgement, IsGood, BreaksAfter}

-- ---- good

abbrev pub set_get_delete : Transcript
set_get_delete = history (opened 1
    ∷ made_feed 1 0 (text "SET a - 1") (takes 1 "SET a - 1" (text "OK") [] ∷ [])
    ∷ made_feed 1 0 (text "GET a") (says 1 "GET a" (text "VAL 1") ∷ [])
    ∷ made_feed 1 0 (text "DEL a") (tells 1 "DEL a" (text "OK") (note Explicit "a" "1" ∷ []) ∷ [])
    ∷ made_feed 1 0 (text "GET a") (says 1 "GET a" (text "NONE") ∷ [])
    ∷ made_feed 1 0 (text "SYNC") (says 1 "SYNC" (text "SYNC 0 0") ∷ []) ∷ [])

abbrev pub set_twice : Transcript
set_twice = history (opened 1
    ∷ made_feed 1 0 (text "SET a - 1") (takes 1 "SET a - 1" (text "OK") [] ∷ [])
    ∷ made_feed 1 0 (text "SET a - 2")
    (takes 1 "SET a - 2" (text "OK") (note Replaced "a" "1" ∷ []) ∷ [])
    ∷ made_feed 1 0 (text "SYNC") (says 1 "SYNC" (text "SYNC 1 1") ∷ [])
    ∷ made_feed 1 0 (text "GET a") (says 1 "GET a" (text "VAL 2") ∷ []) ∷ [])

abbrev pub delete_nothing : Transcript
delete_nothing =
    history (opened 1 ∷ made_feed 1 0 (text "DEL a") (says 1 "DEL a" (text "OK") ∷ []) ∷ [])

pub record GoodValues : Type 0 where
  pub set_get_delete_good : IsGood plain_config set_get_delete
  pub set_twice_good : IsGood plain_config set_twice
  pub delete_nothing_good : IsGood plain_config delete_nothing

-- ---- broken

abbrev pub told_value_shown : Transcript
told_value_shown = history (opened 1
    ∷ made_feed 1 0 (text "SET a - 1") (takes 1 "SET a - 1" (text "OK") [] ∷ [])
    ∷ made_feed 1 0 (text "DEL a") (tells 1 "DEL a" (text "OK") (note Explicit "a" "1" ∷ []) ∷ [])
    ∷ made_feed 1 0 (text "GET a") (says 1 "GET a" (text "VAL 1") ∷ []) ∷ [])

abbrev pub live_value_hidden : Transcript
live_value_hidden = history (opened 1
    ∷ made_feed 1 0 (text "SET a - 1") (takes 1 "SET a - 1" (text "OK") [] ∷ [])
    ∷ made_feed 1 0 (text "GET a") (says 1 "GET a" (text "NONE") ∷ []) ∷ [])

abbrev pub accepts_nothing : Transcript
accepts_nothing =
    history (opened 1 ∷ made_feed 1 0 (text "SET a - 1") (says 1 "SET a - 1" (text "OK") ∷ []) ∷ [])

abbrev pub get_accepts : Transcript
get_accepts =
    history (opened 1 ∷ made_feed 1 0 (text "GET a") (takes 1 "GET a" (text "NONE") [] ∷ []) ∷ [])

abbrev pub part_too_high : Transcript
part_too_high = history (opened 1
    ∷ made_feed 1 0 (text "SET a - 1") (takes_second 1 "SET a - 1" (text "OK") [] ∷ []) ∷ [])

abbrev pub silent_set : Transcript
silent_set = history (opened 1
    ∷ made_feed 1 0 (text "SET a - 1") (takes 1 "SET a - 1" (text "OK") [] ∷ [])
    ∷ made_feed 1 0 (text "SET a - 2") (takes 1 "SET a - 2" (text "OK") [] ∷ []) ∷ [])

abbrev pub silent_delete : Transcript
silent_delete = history (opened 1
    ∷ made_feed 1 0 (text "SET a - 1") (takes 1 "SET a - 1" (text "OK") [] ∷ [])
    ∷ made_feed 1 0 (text "DEL a") (says 1 "DEL a" (text "OK") ∷ []) ∷ [])

abbrev pub told_twice : Transcript
told_twice = history (opened 1
    ∷ made_feed 1 0 (text "SET a - 1") (takes 1 "SET a - 1" (text "OK") [] ∷ [])
    ∷ made_feed 1 0 (text "SET a - 2")
    (takes 1 "SET a - 2" (text "OK") (note Replaced "a" "1" ∷ []) ∷ [])
    ∷ made_feed 1 0 (text "SYNC")
    (tells 1 "SYNC" (text "SYNC 1 1") (note Replaced "a" "1" ∷ []) ∷ []) ∷ [])

abbrev pub other_value_told : Transcript
other_value_told = history (opened 1
    ∷ made_feed 1 0 (text "SET a - 1") (takes 1 "SET a - 1" (text "OK") [] ∷ [])
    ∷ made_feed 1 0 (text "SET a - 2")
    (takes 1 "SET a - 2" (text "OK") (note Replaced "a" "2" ∷ []) ∷ []) ∷ [])

abbrev pub always_explicit : Transcript
always_explicit = history (opened 1
    ∷ made_feed 1 0 (text "SET a - 1") (takes 1 "SET a - 1" (text "OK") [] ∷ [])
    ∷ made_feed 1 0 (text "SET a - 2")
    (takes 1 "SET a - 2" (text "OK") (note Explicit "a" "1" ∷ []) ∷ []) ∷ [])

abbrev pub expired_without_deadline : Transcript
expired_without_deadline = history (opened 1
    ∷ made_feed 1 0 (text "SET a - 1") (takes 1 "SET a - 1" (text "OK") [] ∷ [])
    ∷ made_feed 1 0 (text "SYNC")
    (tells 1 "SYNC" (text "SYNC 0 0") (note Expired "a" "1" ∷ []) ∷ []) ∷ [])

abbrev pub counts_drift : Transcript
counts_drift = history (opened 1
    ∷ made_feed 1 0 (text "SET a - 1") (takes 1 "SET a - 1" (text "OK") [] ∷ [])
    ∷ made_feed 1 0 (text "SYNC") (says 1 "SYNC" (text "SYNC 2 2") ∷ []) ∷ [])

-- its records follow one another, but one key has two parts
abbrev pub two_parts : Transcript
two_parts = history (opened 1
    ∷ made_feed 1 0 (text "SET a - 1") (takes 1 "SET a - 1" (text "OK") [] ∷ [])
    ∷ made_feed 1 0 (text "SET a - 2")
    (takes_second 1 "SET a - 2" (text "OK") (note Replaced "a" "1" ∷ []) ∷ []) ∷ [])

pub record BrokenValues : Type 0 where
  pub told_value_shown_breaks : BreaksAfter 3 plain_config told_value_shown
  pub live_value_hidden_breaks : BreaksAfter 2 plain_config live_value_hidden
  pub accepts_nothing_breaks : BreaksAfter 1 plain_config accepts_nothing
  pub get_accepts_breaks : BreaksAfter 1 plain_config get_accepts
  pub part_too_high_breaks : BreaksAfter 1 plain_config part_too_high
  pub silent_set_breaks : BreaksAfter 2 plain_config silent_set
  pub silent_delete_breaks : BreaksAfter 2 plain_config silent_delete
  pub told_twice_breaks : BreaksAfter 3 plain_config told_twice
  pub other_value_told_breaks : BreaksAfter 2 plain_config other_value_told
  pub always_explicit_breaks : BreaksAfter 2 plain_config always_explicit
  pub expired_without_deadline_breaks : BreaksAfter 2 plain_config expired_without_deadline
  pub counts_drift_breaks : BreaksAfter 2 plain_config counts_drift
  pub two_parts_break : judgement (of_two_parts None) two_parts ≡ (Some 3, 3, true)
