-- Rows of connections: opened, closed, fed in turn, and commands held back for lack of memory.
use Rattle.std.specs.Prelude.{◌^◌, [], ◌∷◌, ◌++◌}
use Rattle.audit_model.specs.declared.transcript.Transcript.{Transcript}
use Rattle.audit_model.specs.declared.transcript.RemovalCause.TheVariants.{Expired}
use Rattle.moka_audit_tests.specs.Model.Making.{text, opened, closed, made_feed, says, takes, made_held_step, note, history, plain_config, of_idle_ms, IsGood, BreaksAfter}

-- ---- good

abbrev pub two_connections : Transcript
two_connections = history (opened 1
    ∷ opened 2
    ∷ made_feed 1 0 (text "SET a - 1") (takes 1 "SET a - 1" (text "OK") [] ∷ [])
    ∷ made_feed 2 0 (text "GET a") (says 2 "GET a" (text "VAL 1") ∷ [])
    ∷ closed 1
    ∷ made_feed 2 0 (text "GET a") (says 2 "GET a" (text "VAL 1") ∷ [])
    ∷ opened 3 ∷ [])

abbrev pub held_command : Transcript
held_command = history (opened 1
    ∷ opened 2
    ∷ made_feed 1 0 (text "SET a - 1") (made_held_step 1 "SET a - 1" ∷ [])
    ∷ made_feed 2 0 (text "GET a") (says 2 "GET a" (text "NONE") ∷ [])
    ∷ made_feed 1 0 [] (takes 1 "SET a - 1" (text "OK") [] ∷ [])
    ∷ made_feed 2 0 (text "GET a") (says 2 "GET a" (text "VAL 1") ∷ []) ∷ [])

abbrev pub held_delete : Transcript
held_delete = history (opened 1
    ∷ opened 2
    ∷ made_feed 1 0 (text "SET a - 1") (takes 1 "SET a - 1" (text "OK") [] ∷ [])
    ∷ made_feed 1 0 (text "DEL a") (made_held_step 1 "DEL a" ∷ [])
    ∷ made_feed 2 0 (text "GET a") (says 2 "GET a" (text "VAL 1") ∷ []) ∷ [])

abbrev pub lines_behind_held : Transcript
lines_behind_held = history (opened 1
    ∷ made_feed 1 0 (text "GET a" ++ text "GET b") (made_held_step 1 "GET a" ∷ [])
    ∷ made_feed 1 0 (text "GET c") (says 1 "GET a" (text "NONE") ∷ says 1 "GET b" (text "NONE")
    ∷ says 1 "GET c" (text "NONE") ∷ []) ∷ [])

pub record GoodConnections : Type 0 where
  pub two_connections_good : IsGood plain_config two_connections
  pub held_command_good : IsGood plain_config held_command
  pub held_delete_good : IsGood plain_config held_delete
  pub lines_behind_held_good : IsGood plain_config lines_behind_held

-- ---- broken

abbrev pub feed_first : Transcript
feed_first = history (made_feed 1 0 (text "GET a") (says 1 "GET a" (text "NONE") ∷ []) ∷ [])

abbrev pub wrong_number : Transcript
wrong_number = history (opened 1 ∷ opened 3 ∷ [])

abbrev pub fed_after_close : Transcript
fed_after_close = history (opened 1 ∷ closed 1 ∷ made_feed 1 0 (text "GET a") [] ∷ [])

abbrev pub closed_twice : Transcript
closed_twice = history (opened 1 ∷ closed 1 ∷ closed 1 ∷ [])

abbrev pub other_connection : Transcript
other_connection = history (opened 1
    ∷ opened 2
    ∷ made_feed 1 0 (text "GET a") (says 2 "GET a" (text "NONE") ∷ []) ∷ [])

abbrev pub moment_too_late : Transcript
moment_too_late = history (opened 1
    ∷ made_feed 1 (2 ^ 63) (text "GET a") (says 1 "GET a" (text "NONE") ∷ []) ∷ [])

abbrev pub held_delete_hides : Transcript
held_delete_hides = history (opened 1
    ∷ opened 2
    ∷ made_feed 1 0 (text "SET a - 1") (takes 1 "SET a - 1" (text "OK") [] ∷ [])
    ∷ made_feed 1 0 (text "DEL a") (made_held_step 1 "DEL a" ∷ [])
    ∷ made_feed 2 0 (text "GET a") (says 2 "GET a" (text "NONE") ∷ []) ∷ [])

abbrev pub held_again : Transcript
held_again = history (opened 1
    ∷ made_feed 1 0 (text "GET a") (made_held_step 1 "GET a" ∷ [])
    ∷ made_feed 1 0 [] (made_held_step 1 "GET a" ∷ []) ∷ [])

abbrev pub line_passes_held : Transcript
line_passes_held = history (opened 1
    ∷ made_feed 1 0 (text "GET a" ++ text "GET b")
    (made_held_step 1 "GET a" ∷ says 1 "GET b" (text "NONE") ∷ []) ∷ [])

-- a line that is held back reports nothing
abbrev pub held_tells : Transcript
held_tells = history (opened 1
    ∷ made_feed 1 0 (text "SET a - 1") (takes 1 "SET a - 1" (text "OK") [] ∷ [])
    ∷ made_feed 1 7000000 (text "GET b") (record (made_held_step 1 "GET b") {
      notices = note Expired "a" "1" ∷ [];
    } ∷ []) ∷ [])

pub record BrokenConnections : Type 0 where
  pub feed_first_breaks : BreaksAfter 0 plain_config feed_first
  pub wrong_number_breaks : BreaksAfter 1 plain_config wrong_number
  pub fed_after_close_breaks : BreaksAfter 2 plain_config fed_after_close
  pub closed_twice_breaks : BreaksAfter 2 plain_config closed_twice
  pub other_connection_breaks : BreaksAfter 2 plain_config other_connection
  pub moment_too_late_breaks : BreaksAfter 1 plain_config moment_too_late
  pub held_delete_hides_breaks : BreaksAfter 4 plain_config held_delete_hides
  pub held_again_breaks : BreaksAfter 2 plain_config held_again
  pub line_passes_held_breaks : BreaksAfter 1 plain_config line_passes_held
  pub held_tells_breaks : BreaksAfter 2 (of_idle_ms 7) held_tells
