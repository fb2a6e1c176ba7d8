-- Rows of loads: sent, joined, answered, given up, and the lines that wait behind them.
use Rattle.std.specs.Prelude.{ℕ, List, [], ◌∷◌, ◌++◌, None, Some, codes, replicate}
use Rattle.audit_model.specs.declared.event.Outcome.TheVariants as outcome
use Rattle.audit_model.specs.declared.transcript.Record.{Record}
use Rattle.audit_model.specs.declared.transcript.RemovalCause.TheVariants.{Expired, Explicit, Replaced}
use Rattle.audit_model.specs.declared.transcript.Transcript.{Transcript}
use Rattle.moka_audit_tests.specs.Model.Making.{text, opened, closed, made_feed, answered, answer_stored, given_up, came, failed, says, takes, tells, sends, joins, made_held_step, note, history, plain_config, of_capacity, of_idle_ms, with_deadlines, IsGood, BreaksAfter}

-- two connections
abbrev pub over_two_connections : List Record → Transcript
over_two_connections records = history (opened 1 ∷ opened 2 ∷ records)

-- the first connection asks for `k`, and its load goes out
abbrev pub first_asks : Record
first_asks = made_feed 1 0 (text "LOAD k") (sends 1 "LOAD k" 1 ∷ [])

-- the second asks for it as well
abbrev pub second_joins : Record
second_joins = made_feed 2 0 (text "LOAD k") (joins 2 "LOAD k" ∷ [])

-- ---- good

-- one load for two connections, whose value is there then
abbrev pub one_load_for_two : Transcript
one_load_for_two = over_two_connections (first_asks
    ∷ second_joins
    ∷ answer_stored 1 0 (came "v") []
    (says 1 "LOAD k" (text "VAL v") ∷ says 2 "LOAD k" (text "VAL v") ∷ [])
    ∷ made_feed 1 0 (text "GET k") (says 1 "GET k" (text "VAL v") ∷ []) ∷ [])

-- a give-up runs both again: the first sends another load, the second joins it
abbrev pub both_run_again : Transcript
both_run_again = over_two_connections (first_asks
    ∷ second_joins
    ∷ given_up 1 0 (sends 1 "LOAD k" 2 ∷ joins 2 "LOAD k" ∷ [])
    ∷ answer_stored 2 0 (came "v") []
    (says 1 "LOAD k" (text "VAL v") ∷ says 2 "LOAD k" (text "VAL v") ∷ []) ∷ [])

-- what came to be there in the meantime is found by each that runs again, and lines behind it run at once
abbrev pub found_when_run_again : Transcript
found_when_run_again = history (opened 1
    ∷ opened 2
    ∷ opened 3
    ∷ made_feed 1 0 (text "LOAD k" ++ text "GET k") (sends 1 "LOAD k" 1 ∷ [])
    ∷ second_joins
    ∷ made_feed 3 0 (text "SET k - 1") (takes 3 "SET k - 1" (text "OK") [] ∷ [])
    ∷ given_up 1 0 (says 1 "LOAD k" (text "VAL 1") ∷ says 1 "GET k" (text "VAL 1")
    ∷ says 2 "LOAD k" (text "VAL 1") ∷ []) ∷ [])

-- a `DEL` that comes in the meantime does not stop the value
abbrev pub deleted_meanwhile : Transcript
deleted_meanwhile = over_two_connections (first_asks
    ∷ made_feed 2 0 (text "DEL k") (says 2 "DEL k" (text "OK") ∷ [])
    ∷ answer_stored 1 0 (came "v") [] (says 1 "LOAD k" (text "VAL v") ∷ [])
    ∷ made_feed 2 0 (text "GET k") (says 2 "GET k" (text "VAL v") ∷ []) ∷ [])

-- a value that came in the meantime is replaced
abbrev pub set_meanwhile : Transcript
set_meanwhile = over_two_connections (first_asks
    ∷ made_feed 2 0 (text "SET k - 1") (takes 2 "SET k - 1" (text "OK") [] ∷ [])
    ∷ answer_stored 1 0 (came "v") (note Replaced "k" "1" ∷ []) (says 1 "LOAD k" (text "VAL v") ∷ [])
    ∷ made_feed 2 0 (text "LOAD k") (says 2 "LOAD k" (text "VAL v") ∷ []) ∷ [])

-- at capacity 0 the value is answered and not kept
abbrev pub nothing_kept : Transcript
nothing_kept = history (opened 1
    ∷ made_feed 1 0 (text "SET a - 1") (says 1 "SET a - 1" (text "OFF") ∷ [])
    ∷ made_feed 1 0 (text "LOAD k") (sends 1 "LOAD k" 1 ∷ [])
    ∷ answered 1 0 (came "v") [] (says 1 "LOAD k" (text "VAL v") ∷ [])
    ∷ made_feed 1 0 (text "GET k") (says 1 "GET k" (text "NONE") ∷ []) ∷ [])

-- a loader that finds nothing, and one that fails
abbrev pub no_value : Transcript
no_value = history (opened 1
    ∷ made_feed 1 0 (text "LOAD k") (sends 1 "LOAD k" 1 ∷ [])
    ∷ answered 1 0 outcome.None [] (says 1 "LOAD k" (text "NONE") ∷ [])
    ∷ made_feed 1 0 (text "LOAD k") (sends 1 "LOAD k" 2 ∷ [])
    ∷ answered 2 0 (failed "down") [] (says 1 "LOAD k" (text "ERR load down") ∷ []) ∷ [])

-- a closed connection is left out, and the load that it asked for is answered without it
abbrev pub closed_left_out : Transcript
closed_left_out = over_two_connections (first_asks
    ∷ second_joins
    ∷ closed 1
    ∷ answer_stored 1 0 (came "v") [] (says 2 "LOAD k" (text "VAL v") ∷ []) ∷ [])

-- a load stays under way when all that waited for it have closed
abbrev pub nobody_waits : Transcript
nobody_waits = over_two_connections (first_asks
    ∷ closed 1
    ∷ second_joins
    ∷ answer_stored 1 0 (came "v") [] (says 2 "LOAD k" (text "VAL v") ∷ []) ∷ [])

-- all that wait are answered first, and then the lines of each run
abbrev pub lines_behind : Transcript
lines_behind =
    over_two_connections (made_feed 1 0 (text "LOAD k" ++ text "GET k") (sends 1 "LOAD k" 1 ∷ [])
    ∷ made_feed 2 0 (text "LOAD k" ++ text "DEL k") (joins 2 "LOAD k" ∷ [])
    ∷ made_feed 1 0 (text "GET k") []
    ∷ answer_stored 1 0 (came "v") [] (says 1 "LOAD k" (text "VAL v")
    ∷ says 2 "LOAD k" (text "VAL v")
    ∷ says 1 "GET k" (text "VAL v")
    ∷ says 1 "GET k" (text "VAL v")
    ∷ tells 2 "DEL k" (text "OK") (note Explicit "k" "v" ∷ []) ∷ []) ∷ [])

-- each key has its own load
abbrev pub two_keys : Transcript
two_keys = over_two_connections (first_asks
    ∷ made_feed 2 0 (text "LOAD j") (sends 2 "LOAD j" 2 ∷ [])
    ∷ answer_stored 2 0 (came "w") [] (says 2 "LOAD j" (text "VAL w") ∷ [])
    ∷ answer_stored 1 0 (came "v") [] (says 1 "LOAD k" (text "VAL v") ∷ []) ∷ [])

-- a `LOAD` that runs again and finds no memory is held back, and sends its load when it runs
abbrev pub load_held_again : Transcript
load_held_again = history (opened 1
    ∷ made_feed 1 0 (text "LOAD k") (sends 1 "LOAD k" 1 ∷ [])
    ∷ given_up 1 0 (made_held_step 1 "LOAD k" ∷ [])
    ∷ made_feed 1 0 [] (sends 1 "LOAD k" 2 ∷ []) ∷ [])

-- a `LOAD` that finds a value is a use of it
abbrev pub load_is_a_use : Transcript
load_is_a_use = history (opened 1
    ∷ made_feed 1 0 (text "SET a - 1") (takes 1 "SET a - 1" (text "OK") [] ∷ [])
    ∷ made_feed 1 6999999 (text "LOAD a") (says 1 "LOAD a" (text "VAL 1") ∷ [])
    ∷ made_feed 1 13999998 (text "GET a") (says 1 "GET a" (text "VAL 1") ∷ []) ∷ [])

-- a loaded value dies at its own deadline
abbrev pub loaded_for_a_time : Transcript
loaded_for_a_time = history (opened 1
    ∷ made_feed 1 0 (text "LOAD k") (sends 1 "LOAD k" 1 ∷ [])
    ∷ answer_stored 1 0 (outcome.Value (codes "v") (Some 1)) [] (says 1 "LOAD k" (text "VAL v") ∷ [])
    ∷ made_feed 1 999423 (text "GET k") (says 1 "GET k" (text "VAL v") ∷ [])
    ∷ made_feed 1 999424 (text "GET k") (says 1 "GET k" (text "NONE") ∷ []) ∷ [])

-- 8192 bytes behind a `LOAD` that waits leave its connection open, and one more closes it, in the same piece too
abbrev pub bytes_behind : ℕ → List ℕ
bytes_behind n = replicate n 120

abbrev pub as_much_as_may_be_behind : Transcript
as_much_as_may_be_behind = history (opened 1
    ∷ made_feed 1 0 (text "LOAD k" ++ bytes_behind 8192) (sends 1 "LOAD k" 1 ∷ [])
    ∷ closed 1 ∷ [])

abbrev pub too_much_behind : Transcript
too_much_behind =
    over_two_connections
    (made_feed 1 0 (text "LOAD k" ++ bytes_behind 8193) (sends 1 "LOAD k" 1 ∷ [])
    ∷ answered 1 0 outcome.None [] []
    ∷ made_feed 2 0 (text "GET a") (says 2 "GET a" (text "NONE") ∷ []) ∷ [])

pub record GoodLoads : Type 0 where
  pub one_load_for_two_good : IsGood plain_config one_load_for_two
  pub both_run_again_good : IsGood plain_config both_run_again
  pub found_when_run_again_good : IsGood plain_config found_when_run_again
  pub deleted_meanwhile_good : IsGood plain_config deleted_meanwhile
  pub set_meanwhile_good : IsGood plain_config set_meanwhile
  pub nothing_kept_good : IsGood (of_capacity 0) nothing_kept
  pub no_value_good : IsGood plain_config no_value
  pub closed_left_out_good : IsGood plain_config closed_left_out
  pub nobody_waits_good : IsGood plain_config nobody_waits
  pub lines_behind_good : IsGood plain_config lines_behind
  pub two_keys_good : IsGood plain_config two_keys
  pub held_again_good : IsGood plain_config load_held_again
  pub load_is_a_use_good : IsGood (of_idle_ms 7) load_is_a_use
  pub loaded_for_a_time_good : IsGood (with_deadlines plain_config) loaded_for_a_time
  pub as_much_as_may_be_behind_good : IsGood plain_config as_much_as_may_be_behind
  pub too_much_behind_good : IsGood plain_config too_much_behind

-- ---- broken

-- each connection starts its own load of a key
abbrev pub own_load_each : Transcript
own_load_each = over_two_connections (first_asks
    ∷ made_feed 2 0 (text "LOAD k") (sends 2 "LOAD k" 2 ∷ []) ∷ [])

-- a load's number is not the next
abbrev pub load_number_skipped : Transcript
load_number_skipped = history (opened 1
    ∷ made_feed 1 0 (text "LOAD k") (sends 1 "LOAD k" 2 ∷ []) ∷ [])

-- after a give-up those that wait are answered `NONE`
abbrev pub answered_by_give_up : Transcript
answered_by_give_up = over_two_connections (first_asks
    ∷ second_joins
    ∷ given_up 1 0 (says 1 "LOAD k" (text "NONE") ∷ says 2 "LOAD k" (text "NONE") ∷ []) ∷ [])

-- after a give-up nothing runs again
abbrev pub not_run_again : Transcript
not_run_again =
    history
    (opened 1 ∷ made_feed 1 0 (text "LOAD k") (sends 1 "LOAD k" 1 ∷ []) ∷ given_up 1 0 [] ∷ [])

-- a line behind a `LOAD` that waits runs early, in its own piece or in another one
abbrev pub runs_early : Transcript
runs_early = over_two_connections (first_asks
    ∷ made_feed 1 0 (text "GET a") (says 1 "GET a" (text "NONE") ∷ []) ∷ [])

abbrev pub runs_early_in_its_piece : Transcript
runs_early_in_its_piece = history (opened 1
    ∷ made_feed 1 0 (text "LOAD k" ++ text "GET a")
    (sends 1 "LOAD k" 1 ∷ says 1 "GET a" (text "NONE") ∷ []) ∷ [])

-- an answer skips its value as a `DEL` came in the meantime
abbrev pub value_skipped : Transcript
value_skipped = over_two_connections (first_asks
    ∷ made_feed 2 0 (text "DEL k") (says 2 "DEL k" (text "OK") ∷ [])
    ∷ answered 1 0 (came "v") [] (says 1 "LOAD k" (text "VAL v") ∷ []) ∷ [])

-- an answer is kept at capacity 0
abbrev pub kept_at_capacity_0 : Transcript
kept_at_capacity_0 = history (opened 1
    ∷ made_feed 1 0 (text "LOAD k") (sends 1 "LOAD k" 1 ∷ [])
    ∷ answer_stored 1 0 (came "v") [] (says 1 "LOAD k" (text "VAL v") ∷ []) ∷ [])

-- notes stand beside an answer without a value
abbrev pub told_without_value : Transcript
told_without_value = over_two_connections (first_asks
    ∷ made_feed 2 0 (text "SET k - 1") (takes 2 "SET k - 1" (text "OK") [] ∷ [])
    ∷ answered 1 0 outcome.None (note Replaced "k" "1" ∷ []) (says 1 "LOAD k" (text "NONE") ∷ [])
    ∷ [])

-- so it is where the note's cause is true
abbrev pub dead_told_without_value : Transcript
dead_told_without_value = history (opened 1
    ∷ made_feed 1 0 (text "SET a - 1" ++ text "LOAD k")
    (takes 1 "SET a - 1" (text "OK") [] ∷ sends 1 "LOAD k" 1 ∷ [])
    ∷ answered 1 7000000 outcome.None (note Expired "a" "1" ∷ [])
    (says 1 "LOAD k" (text "NONE") ∷ []) ∷ [])

-- a waiting connection is forgotten
abbrev pub one_forgotten : Transcript
one_forgotten = over_two_connections (first_asks
    ∷ second_joins
    ∷ answer_stored 1 0 (came "v") [] (says 1 "LOAD k" (text "VAL v") ∷ []) ∷ [])

-- a line runs before all that wait are answered
abbrev pub line_before_the_second : Transcript
line_before_the_second =
    over_two_connections (made_feed 1 0 (text "LOAD k" ++ text "GET k") (sends 1 "LOAD k" 1 ∷ [])
    ∷ second_joins
    ∷ answer_stored 1 0 (came "v") [] (says 1 "LOAD k" (text "VAL v") ∷ says 1 "GET k" (text "VAL v")
    ∷ says 2 "LOAD k" (text "VAL v") ∷ []) ∷ [])

-- a closed connection is answered
abbrev pub closed_is_answered : Transcript
closed_is_answered = over_two_connections (first_asks
    ∷ second_joins
    ∷ closed 1
    ∷ answer_stored 1 0 (came "v") []
    (says 1 "LOAD k" (text "VAL v") ∷ says 2 "LOAD k" (text "VAL v") ∷ []) ∷ [])

-- a load is answered twice
abbrev pub answered_twice : Transcript
answered_twice = history (opened 1
    ∷ made_feed 1 0 (text "LOAD k") (sends 1 "LOAD k" 1 ∷ [])
    ∷ answered 1 0 outcome.None [] (says 1 "LOAD k" (text "NONE") ∷ [])
    ∷ answered 1 0 outcome.None [] [] ∷ [])

-- an outcome that is refused: a line feed, or a time to live if there are no own deadlines
abbrev pub value_of_two_lines : Transcript
value_of_two_lines = history (opened 1
    ∷ made_feed 1 0 (text "LOAD k") (sends 1 "LOAD k" 1 ∷ [])
    ∷ answer_stored 1 0 (outcome.Value (text "x" ++ codes "y") None) []
    (says 1 "LOAD k" (text "VAL x" ++ codes "y") ∷ []) ∷ [])

abbrev pub value_with_a_time : Transcript
value_with_a_time = history (opened 1
    ∷ made_feed 1 0 (text "LOAD k") (sends 1 "LOAD k" 1 ∷ [])
    ∷ answer_stored 1 0 (outcome.Value (codes "v") (Some 1)) [] (says 1 "LOAD k" (text "VAL v") ∷ []) ∷ [])

-- a live value is not looked for
abbrev pub live_value_missed : Transcript
live_value_missed = history (opened 1
    ∷ made_feed 1 0 (text "SET a - 1") (takes 1 "SET a - 1" (text "OK") [] ∷ [])
    ∷ made_feed 1 0 (text "LOAD a") (sends 1 "LOAD a" 1 ∷ []) ∷ [])

-- those that wait are answered in the order in which they joined
abbrev pub answered_out_of_order : Transcript
answered_out_of_order = over_two_connections (first_asks
    ∷ second_joins
    ∷ answer_stored 1 0 (came "v") []
    (says 2 "LOAD k" (text "VAL v") ∷ says 1 "LOAD k" (text "VAL v") ∷ []) ∷ [])

pub record BrokenLoads : Type 0 where
  pub own_load_each_breaks : BreaksAfter 3 plain_config own_load_each
  pub load_number_skipped_breaks : BreaksAfter 1 plain_config load_number_skipped
  pub answered_by_give_up_breaks : BreaksAfter 4 plain_config answered_by_give_up
  pub not_run_again_breaks : BreaksAfter 2 plain_config not_run_again
  pub runs_early_breaks : BreaksAfter 3 plain_config runs_early
  pub runs_early_in_its_piece_breaks : BreaksAfter 1 plain_config runs_early_in_its_piece
  pub value_skipped_breaks : BreaksAfter 4 plain_config value_skipped
  pub kept_at_capacity_0_breaks : BreaksAfter 2 (of_capacity 0) kept_at_capacity_0
  pub told_without_value_breaks : BreaksAfter 4 plain_config told_without_value
  pub dead_told_without_value_breaks : BreaksAfter 2 (of_idle_ms 7) dead_told_without_value
  pub one_forgotten_breaks : BreaksAfter 4 plain_config one_forgotten
  pub line_before_the_second_breaks : BreaksAfter 4 plain_config line_before_the_second
  pub closed_is_answered_breaks : BreaksAfter 5 plain_config closed_is_answered
  pub answered_twice_breaks : BreaksAfter 3 plain_config answered_twice
  pub value_of_two_lines_breaks : BreaksAfter 2 plain_config value_of_two_lines
  pub value_with_a_time_breaks : BreaksAfter 2 plain_config value_with_a_time
  pub live_value_missed_breaks : BreaksAfter 2 plain_config live_value_missed
  pub answered_out_of_order_breaks : BreaksAfter 4 plain_config answered_out_of_order
