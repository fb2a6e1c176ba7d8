-- Rows of deadlines: own ones, live times and idle times, to the nanosecond.
use Rattle.std.specs.Prelude.{[], ◌∷◌, ◌++◌}
use Rattle.audit_model.specs.declared.transcript.Transcript.{Transcript}
use Rattle.audit_model.specs.declared.transcript.RemovalCause.TheVariants.{Expired, Replaced}
use Rattle.moka_audit_tests.specs.Model.Making.{text, opened, made_feed, answer_stored, came, says, takes, tells, sends, note, history, plain_config, of_idle_ms, of_live_ms, with_deadlines, IsGood, BreaksAfter}

-- ---- good

-- the deadline is rounded down to 244 times 4096; the value is held until it is reported
abbrev pub own_deadline : Transcript
own_deadline = history (opened 1
    ∷ made_feed 1 0 (text "SET a 1 x") (takes 1 "SET a 1 x" (text "OK") [] ∷ [])
    ∷ made_feed 1 999423 (text "GET a") (says 1 "GET a" (text "VAL x") ∷ [])
    ∷ made_feed 1 999424 (text "GET a") (says 1 "GET a" (text "NONE") ∷ [])
    ∷ made_feed 1 999424 (text "SYNC") (says 1 "SYNC" (text "SYNC 1 1") ∷ [])
    ∷ made_feed 1 1073741824 (text "SYNC")
    (tells 1 "SYNC" (text "SYNC 0 0") (note Expired "a" "x" ∷ []) ∷ []) ∷ [])

abbrev pub idle_time : Transcript
idle_time = history (opened 1
    ∷ made_feed 1 0 (text "SET a - 1") (takes 1 "SET a - 1" (text "OK") [] ∷ [])
    ∷ made_feed 1 6999999 (text "GET a") (says 1 "GET a" (text "VAL 1") ∷ [])
    ∷ made_feed 1 13999998 (text "GET a") (says 1 "GET a" (text "VAL 1") ∷ [])
    ∷ made_feed 1 20999998 (text "GET a") (says 1 "GET a" (text "NONE") ∷ []) ∷ [])

-- a use does not lengthen a live time
abbrev pub live_time : Transcript
live_time = history (opened 1
    ∷ made_feed 1 0 (text "SET a - 1") (takes 1 "SET a - 1" (text "OK") [] ∷ [])
    ∷ made_feed 1 6999999 (text "GET a") (says 1 "GET a" (text "VAL 1") ∷ [])
    ∷ made_feed 1 7000000 (text "GET a") (says 1 "GET a" (text "NONE") ∷ [])
    ∷ made_feed 1 7000000 (text "SET a - 2")
    (takes 1 "SET a - 2" (text "OK") (note Expired "a" "1" ∷ []) ∷ []) ∷ [])

-- an earlier moment counts as the latest one
abbrev pub fallen_moment : Transcript
fallen_moment = history (opened 1
    ∷ made_feed 1 2000000 (text "SET a 1 x") (takes 1 "SET a 1 x" (text "OK") [] ∷ [])
    ∷ made_feed 1 0 (text "GET a") (says 1 "GET a" (text "VAL x") ∷ [])
    ∷ made_feed 1 2998272 (text "GET a") (says 1 "GET a" (text "NONE") ∷ []) ∷ [])

abbrev pub own_end_first : Transcript
own_end_first = history (opened 1
    ∷ made_feed 1 0 (text "SET a 100 x") (takes 1 "SET a 100 x" (text "OK") [] ∷ [])
    ∷ made_feed 1 0 (text "SET a 5 y")
    (takes 1 "SET a 5 y" (text "OK") (note Replaced "a" "x" ∷ []) ∷ [])
    ∷ made_feed 1 4000000 (text "GET a") (says 1 "GET a" (text "VAL y") ∷ [])
    ∷ made_feed 1 4997119 (text "GET a") (says 1 "GET a" (text "VAL y") ∷ [])
    ∷ made_feed 1 4997120 (text "GET a") (says 1 "GET a" (text "NONE") ∷ []) ∷ [])

abbrev pub idle_without_own : Transcript
idle_without_own = history (opened 1
    ∷ made_feed 1 0 (text "SET b - z") (takes 1 "SET b - z" (text "OK") [] ∷ [])
    ∷ made_feed 1 4999999 (text "GET b") (says 1 "GET b" (text "VAL z") ∷ [])
    ∷ made_feed 1 9999998 (text "GET b") (says 1 "GET b" (text "VAL z") ∷ [])
    ∷ made_feed 1 14999998 (text "GET b") (says 1 "GET b" (text "NONE") ∷ []) ∷ [])

abbrev pub idle_end_first : Transcript
idle_end_first = history (opened 1
    ∷ made_feed 1 0 (text "SET c 100 w") (takes 1 "SET c 100 w" (text "OK") [] ∷ [])
    ∷ made_feed 1 5000000 (text "GET c") (says 1 "GET c" (text "NONE") ∷ []) ∷ [])

-- an idle time begins with the write
abbrev pub idle_from_its_write : Transcript
idle_from_its_write = history (opened 1
    ∷ made_feed 1 1000000 (text "SET a - 1") (takes 1 "SET a - 1" (text "OK") [] ∷ [])
    ∷ made_feed 1 7999999 (text "GET a") (says 1 "GET a" (text "VAL 1") ∷ []) ∷ [])

-- a look-up of a dead value is no use of it
abbrev pub dead_stays_dead : Transcript
dead_stays_dead = history (opened 1
    ∷ made_feed 1 0 (text "SET a - 1") (takes 1 "SET a - 1" (text "OK") [] ∷ [])
    ∷ made_feed 1 7000000 (text "GET a") (says 1 "GET a" (text "NONE") ∷ [])
    ∷ made_feed 1 7000001 (text "GET a") (says 1 "GET a" (text "NONE") ∷ []) ∷ [])

-- a value that lives 0 milliseconds may be reported by the step that accepts it
abbrev pub dead_on_arrival : Transcript
dead_on_arrival = history (opened 1
    ∷ made_feed 1 0 (text "SET a 0 x")
    (takes 1 "SET a 0 x" (text "OK") (note Expired "a" "x" ∷ []) ∷ []) ∷ [])

-- the first cause that is true of a value that is dead and covered
abbrev pub dead_and_covered : Transcript
dead_and_covered = history (opened 1
    ∷ made_feed 1 0 (text "SET a - 1") (takes 1 "SET a - 1" (text "OK") [] ∷ [])
    ∷ made_feed 1 0 (text "CLEAR") (says 1 "CLEAR" (text "OK") ∷ [])
    ∷ made_feed 1 7000000 (text "SET a - 2")
    (takes 1 "SET a - 2" (text "OK") (note Expired "a" "1" ∷ []) ∷ []) ∷ [])

-- the moment of an answer counts
abbrev pub moment_of_an_answer : Transcript
moment_of_an_answer = history (opened 1
    ∷ made_feed 1 0 (text "SET a - 1" ++ text "LOAD k")
    (takes 1 "SET a - 1" (text "OK") [] ∷ sends 1 "LOAD k" 1 ∷ [])
    ∷ answer_stored 1 7000000 (came "v") [] (says 1 "LOAD k" (text "VAL v") ∷ [])
    ∷ made_feed 1 0 (text "GET a") (says 1 "GET a" (text "NONE") ∷ []) ∷ [])

pub record GoodDeadlines : Type 0 where
  pub own_deadline_good : IsGood (with_deadlines plain_config) own_deadline
  pub idle_time_good : IsGood (of_idle_ms 7) idle_time
  pub live_time_good : IsGood (of_live_ms 7) live_time
  pub fallen_moment_good : IsGood (with_deadlines plain_config) fallen_moment
  pub own_end_first_good : IsGood (with_deadlines (of_idle_ms 5)) own_end_first
  pub idle_without_own_good : IsGood (with_deadlines (of_idle_ms 5)) idle_without_own
  pub idle_end_first_good : IsGood (with_deadlines (of_idle_ms 5)) idle_end_first
  pub idle_from_its_write_good : IsGood (of_idle_ms 7) idle_from_its_write
  pub dead_stays_dead_good : IsGood (of_idle_ms 7) dead_stays_dead
  pub dead_on_arrival_good : IsGood (with_deadlines plain_config) dead_on_arrival
  pub dead_and_covered_good : IsGood (of_idle_ms 7) dead_and_covered
  pub moment_of_an_answer_good : IsGood (of_idle_ms 7) moment_of_an_answer

-- ---- broken

-- a look-up that waits for a timer
abbrev pub shown_until_timer : Transcript
shown_until_timer = history (opened 1
    ∷ made_feed 1 0 (text "SET a 1 x") (takes 1 "SET a 1 x" (text "OK") [] ∷ [])
    ∷ made_feed 1 999424 (text "GET a") (says 1 "GET a" (text "VAL x") ∷ []) ∷ [])

abbrev pub own_end_missed : Transcript
own_end_missed = history (opened 1
    ∷ made_feed 1 0 (text "SET a 100 x") (takes 1 "SET a 100 x" (text "OK") [] ∷ [])
    ∷ made_feed 1 0 (text "SET a 5 y")
    (takes 1 "SET a 5 y" (text "OK") (note Replaced "a" "x" ∷ []) ∷ [])
    ∷ made_feed 1 4000000 (text "GET a") (says 1 "GET a" (text "VAL y") ∷ [])
    ∷ made_feed 1 4997119 (text "GET a") (says 1 "GET a" (text "VAL y") ∷ [])
    ∷ made_feed 1 4997120 (text "GET a") (says 1 "GET a" (text "VAL y") ∷ []) ∷ [])

-- a dead value that is written over is reported as expired
abbrev pub dead_told_replaced : Transcript
dead_told_replaced = history (opened 1
    ∷ made_feed 1 0 (text "SET a - 1") (takes 1 "SET a - 1" (text "OK") [] ∷ [])
    ∷ made_feed 1 7000000 (text "SET a - 2")
    (takes 1 "SET a - 2" (text "OK") (note Replaced "a" "1" ∷ []) ∷ []) ∷ [])

pub record BrokenDeadlines : Type 0 where
  pub shown_until_timer_breaks : BreaksAfter 2 (with_deadlines plain_config) shown_until_timer
  pub own_end_missed_breaks : BreaksAfter 5 (with_deadlines (of_idle_ms 5)) own_end_missed
  pub dead_told_replaced_breaks : BreaksAfter 2 (of_idle_ms 7) dead_told_replaced
