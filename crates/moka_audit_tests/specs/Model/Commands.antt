-- Rows of the commands: asking without use, sums, coverage, keys in order, quitting.
use Rattle.std.specs.Prelude.{[], ◌∷◌, ◌++◌}
use Rattle.audit_model.specs.declared.transcript.Transcript.{Transcript}
use Rattle.audit_model.specs.declared.transcript.RemovalCause.TheVariants.{Expired, Explicit, Replaced, Size}
use Rattle.moka_audit_tests.specs.Model.Making.{text, opened, made_feed, says, takes, tells, note, history, plain_config, of_capacity, of_idle_ms, with_deadlines, IsGood, BreaksAfter}

-- ---- good

-- a `HAS` does not lengthen an idle time
abbrev pub has_is_no_use : Transcript
has_is_no_use = history (opened 1
    ∷ made_feed 1 0 (text "SET a - 1") (takes 1 "SET a - 1" (text "OK") [] ∷ [])
    ∷ made_feed 1 6999999 (text "GET a") (says 1 "GET a" (text "VAL 1") ∷ [])
    ∷ made_feed 1 13999998 (text "GET a") (says 1 "GET a" (text "VAL 1") ∷ [])
    ∷ made_feed 1 20999997 (text "HAS a") (says 1 "HAS a" (text "YES") ∷ [])
    ∷ made_feed 1 20999998 (text "HAS a") (says 1 "HAS a" (text "NO") ∷ [])
    ∷ made_feed 1 20999998 (text "GET a") (says 1 "GET a" (text "NONE") ∷ []) ∷ [])

-- a missing value counts as 0; what is no number stays, and the look-up is answered
abbrev pub sums : Transcript
sums = history (opened 1
    ∷ made_feed 1 0 (text "ADD n - 2") (takes 1 "ADD n - 2" (text "VAL 2") [] ∷ [])
    ∷ made_feed 1 0 (text "ADD n - 003")
    (takes 1 "ADD n - 003" (text "VAL 5") (note Replaced "n" "2" ∷ []) ∷ [])
    ∷ made_feed 1 0 (text "SET n - x")
    (takes 1 "SET n - x" (text "OK") (note Replaced "n" "5" ∷ []) ∷ [])
    ∷ made_feed 1 0 (text "ADD n - 1") (says 1 "ADD n - 1" (text "ERR number") ∷ [])
    ∷ made_feed 1 0 (text "GET n") (says 1 "GET n" (text "VAL x") ∷ [])
    ∷ made_feed 1 0 (text "SET n - 18446744073709551615")
    (takes 1 "SET n - 18446744073709551615" (text "OK") (note Replaced "n" "x" ∷ []) ∷ [])
    ∷ made_feed 1 0 (text "ADD n - 1") (says 1 "ADD n - 1" (text "ERR number") ∷ [])
    ∷ made_feed 1 0 (text "ADD n - 0") (takes 1 "ADD n - 0" (text "VAL 18446744073709551615")
    (note Replaced "n" "18446744073709551615" ∷ []) ∷ []) ∷ [])

-- a sum has the deadline of its own line; what has died counts as 0
abbrev pub sum_with_deadline : Transcript
sum_with_deadline = history (opened 1
    ∷ made_feed 1 0 (text "ADD n 1 2") (takes 1 "ADD n 1 2" (text "VAL 2") [] ∷ [])
    ∷ made_feed 1 999424 (text "ADD n - 3")
    (takes 1 "ADD n - 3" (text "VAL 3") (note Expired "n" "2" ∷ []) ∷ [])
    ∷ made_feed 1 1000000000 (text "GET n") (says 1 "GET n" (text "VAL 3") ∷ []) ∷ [])

-- an `ADD` that ends in `ERR number` after its look-up is a use
abbrev pub failed_sum_uses : Transcript
failed_sum_uses = history (opened 1
    ∷ made_feed 1 0 (text "SET n - x") (takes 1 "SET n - x" (text "OK") [] ∷ [])
    ∷ made_feed 1 6999999 (text "ADD n - 1") (says 1 "ADD n - 1" (text "ERR number") ∷ [])
    ∷ made_feed 1 13999998 (text "GET n") (says 1 "GET n" (text "VAL x") ∷ []) ∷ [])

-- faults of an `ADD`, in their order
abbrev pub numbers : Transcript
numbers = history (opened 1
    ∷ made_feed 1 0 (text "ADD n - 18446744073709551616")
    (says 1 "ADD n - 18446744073709551616" (text "ERR number") ∷ [])
    ∷ made_feed 1 0 (text "ADD n - 000000000000000000001")
    (says 1 "ADD n - 000000000000000000001" (text "ERR number") ∷ [])
    ∷ made_feed 1 0 (text "ADD n - ") (says 1 "ADD n - " (text "ERR number") ∷ [])
    ∷ made_feed 1 0 (text "ADD n - 1x") (says 1 "ADD n - 1x" (text "ERR number") ∷ [])
    ∷ made_feed 1 0 (text "ADD n 5 1x") (says 1 "ADD n 5 1x" (text "ERR deadline") ∷ [])
    ∷ made_feed 1 0 (text "ADD n  1") (says 1 "ADD n  1" (text "ERR deadline") ∷ [])
    ∷ made_feed 1 0 (text "ADD n 5 1 2") (says 1 "ADD n 5 1 2" (text "ERR syntax") ∷ [])
    ∷ made_feed 1 0 (text "ADD n -") (says 1 "ADD n -" (text "ERR syntax") ∷ [])
    ∷ made_feed 1 0 (text "ADD  - 1") (says 1 "ADD  - 1" (text "ERR syntax") ∷ [])
    ∷ made_feed 1 0 (text "ADD n - 18446744073709551615")
    (takes 1 "ADD n - 18446744073709551615" (text "VAL 18446744073709551615") [] ∷ []) ∷ [])

-- the line is judged before the capacity
abbrev pub no_room_for_sums : Transcript
no_room_for_sums = history (opened 1
    ∷ made_feed 1 0 (text "ADD n - 2") (says 1 "ADD n - 2" (text "OFF") ∷ [])
    ∷ made_feed 1 0 (text "ADD n - x") (says 1 "ADD n - x" (text "ERR number") ∷ []) ∷ [])

-- an `ADD` runs maintenance before it writes: it may report its key's older value with another true cause
abbrev pub add_tells_size : Transcript
add_tells_size = history (opened 1
    ∷ made_feed 1 0 (text "ADD a - 1") (takes 1 "ADD a - 1" (text "VAL 1") [] ∷ [])
    ∷ made_feed 1 0 (text "SET b - 1") (takes 1 "SET b - 1" (text "OK") [] ∷ [])
    ∷ made_feed 1 0 (text "SET c - 1") (takes 1 "SET c - 1" (text "OK") [] ∷ [])
    ∷ made_feed 1 0 (text "ADD a - 1")
    (takes 1 "ADD a - 1" (text "VAL 2") (note Size "a" "1" ∷ []) ∷ []) ∷ [])

abbrev pub cleared : Transcript
cleared = history (opened 1
    ∷ made_feed 1 0 (text "SET a - 1") (takes 1 "SET a - 1" (text "OK") [] ∷ [])
    ∷ made_feed 1 0 (text "CLEAR") (says 1 "CLEAR" (text "OK") ∷ [])
    ∷ made_feed 1 0 (text "GET a") (says 1 "GET a" (text "NONE") ∷ [])
    ∷ made_feed 1 0 (text "SET a - 2")
    (takes 1 "SET a - 2" (text "OK") (note Explicit "a" "1" ∷ []) ∷ [])
    ∷ made_feed 1 0 (text "GET a") (says 1 "GET a" (text "VAL 2") ∷ []) ∷ [])

-- what is covered is held until it is reported
abbrev pub cleared_and_held : Transcript
cleared_and_held = history (opened 1
    ∷ made_feed 1 0 (text "SET a - 1") (takes 1 "SET a - 1" (text "OK") [] ∷ [])
    ∷ made_feed 1 0 (text "CLEAR") (says 1 "CLEAR" (text "OK") ∷ [])
    ∷ made_feed 1 0 (text "SYNC") (says 1 "SYNC" (text "SYNC 1 1") ∷ [])
    ∷ made_feed 1 0 (text "SYNC")
    (tells 1 "SYNC" (text "SYNC 0 0") (note Explicit "a" "1" ∷ []) ∷ []) ∷ [])

-- a `DROPIF` covers the keys of its prefix that are held, and none that come later
abbrev pub prefix_dropped : Transcript
prefix_dropped = history (opened 1
    ∷ made_feed 1 0 (text "SET ab - 1") (takes 1 "SET ab - 1" (text "OK") [] ∷ [])
    ∷ made_feed 1 0 (text "SET b - 2") (takes 1 "SET b - 2" (text "OK") [] ∷ [])
    ∷ made_feed 1 0 (text "DROPIF a") (says 1 "DROPIF a" (text "OK") ∷ [])
    ∷ made_feed 1 0 (text "GET ab") (says 1 "GET ab" (text "NONE") ∷ [])
    ∷ made_feed 1 0 (text "SET ac - 3") (takes 1 "SET ac - 3" (text "OK") [] ∷ [])
    ∷ made_feed 1 0 (text "KEYS") (says 1 "KEYS" (text "KEYS 2" ++ text "ac" ++ text "b") ∷ [])
    ∷ [])

-- a later `DROPIF` may be refused, and covers nothing then
abbrev pub second_id : Transcript
second_id = history (opened 1
    ∷ made_feed 1 0 (text "SET a - 1") (takes 1 "SET a - 1" (text "OK") [] ∷ [])
    ∷ made_feed 1 0 (text "DROPIF z") (says 1 "DROPIF z" (text "OK") ∷ [])
    ∷ made_feed 1 0 (text "DROPIF a") (says 1 "DROPIF a" (text "ERR id") ∷ [])
    ∷ made_feed 1 0 (text "GET a") (says 1 "GET a" (text "VAL 1") ∷ []) ∷ [])

abbrev pub keys_in_order : Transcript
keys_in_order = history (opened 1
    ∷ made_feed 1 0 (text "KEYS") (says 1 "KEYS" (text "KEYS 0") ∷ [])
    ∷ made_feed 1 0 (text "SET b - 2") (takes 1 "SET b - 2" (text "OK") [] ∷ [])
    ∷ made_feed 1 0 (text "SET ab - 1") (takes 1 "SET ab - 1" (text "OK") [] ∷ [])
    ∷ made_feed 1 0 (text "SET a - 1") (takes 1 "SET a - 1" (text "OK") [] ∷ [])
    ∷ made_feed 1 0 (text "SET B - 1") (takes 1 "SET B - 1" (text "OK") [] ∷ [])
    ∷ made_feed 1 0 (text "DEL B") (tells 1 "DEL B" (text "OK") (note Explicit "B" "1" ∷ []) ∷ [])
    ∷ made_feed 1 0 (text "SET Z - 1") (takes 1 "SET Z - 1" (text "OK") [] ∷ [])
    ∷ made_feed 1 0 (text "KEYS")
    (says 1 "KEYS" (text "KEYS 4" ++ text "Z" ++ text "a" ++ text "ab" ++ text "b") ∷ []) ∷ [])

-- what stands behind a `QUIT` is not run, and another connection goes on
abbrev pub quit : Transcript
quit = history (opened 1
    ∷ opened 2
    ∷ made_feed 1 0 (text "QUIT" ++ text "SET a - 1") (says 1 "QUIT" (text "OK") ∷ [])
    ∷ made_feed 2 0 (text "GET a") (says 2 "GET a" (text "NONE") ∷ []) ∷ [])

abbrev pub bare_words : Transcript
bare_words = history (opened 1
    ∷ made_feed 1 0 (text "QUIT x") (says 1 "QUIT x" (text "ERR syntax") ∷ [])
    ∷ made_feed 1 0 (text "QUIT ") (says 1 "QUIT " (text "ERR syntax") ∷ [])
    ∷ made_feed 1 0 (text "CLEAR ") (says 1 "CLEAR " (text "ERR syntax") ∷ [])
    ∷ made_feed 1 0 (text "KEYS ") (says 1 "KEYS " (text "ERR syntax") ∷ [])
    ∷ made_feed 1 0 (text "KEYS a") (says 1 "KEYS a" (text "ERR syntax") ∷ [])
    ∷ made_feed 1 0 (text "HAS") (says 1 "HAS" (text "ERR syntax") ∷ [])
    ∷ made_feed 1 0 (text "HAS a ") (says 1 "HAS a " (text "ERR syntax") ∷ [])
    ∷ made_feed 1 0 (text "DROPIF") (says 1 "DROPIF" (text "ERR syntax") ∷ [])
    ∷ made_feed 1 0 (text "DROPIF a b") (says 1 "DROPIF a b" (text "ERR syntax") ∷ [])
    ∷ made_feed 1 0 (text "LOAD") (says 1 "LOAD" (text "ERR syntax") ∷ [])
    ∷ made_feed 1 0 (text "LOAD a b") (says 1 "LOAD a b" (text "ERR syntax") ∷ []) ∷ [])

pub record GoodCommands : Type 0 where
  pub has_is_no_use_good : IsGood (of_idle_ms 7) has_is_no_use
  pub sums_good : IsGood plain_config sums
  pub sum_with_deadline_good : IsGood (with_deadlines plain_config) sum_with_deadline
  pub failed_sum_uses_good : IsGood (of_idle_ms 7) failed_sum_uses
  pub numbers_good : IsGood plain_config numbers
  pub no_room_for_sums_good : IsGood (of_capacity 0) no_room_for_sums
  pub add_tells_size_good : IsGood (of_capacity 2) add_tells_size
  pub cleared_good : IsGood plain_config cleared
  pub cleared_and_held_good : IsGood plain_config cleared_and_held
  pub prefix_dropped_good : IsGood plain_config prefix_dropped
  pub second_id_good : IsGood plain_config second_id
  pub keys_in_order_good : IsGood plain_config keys_in_order
  pub quit_good : IsGood plain_config quit
  pub bare_words_good : IsGood plain_config bare_words

-- ---- broken

abbrev pub has_tells : Transcript
has_tells = history (opened 1
    ∷ made_feed 1 0 (text "SET a - 1") (takes 1 "SET a - 1" (text "OK") [] ∷ [])
    ∷ made_feed 1 7000000 (text "HAS a")
    (tells 1 "HAS a" (text "NO") (note Expired "a" "1" ∷ []) ∷ []) ∷ [])

abbrev pub has_uses : Transcript
has_uses = history (opened 1
    ∷ made_feed 1 0 (text "SET a - 1") (takes 1 "SET a - 1" (text "OK") [] ∷ [])
    ∷ made_feed 1 6999999 (text "HAS a") (says 1 "HAS a" (text "YES") ∷ [])
    ∷ made_feed 1 7000000 (text "GET a") (says 1 "GET a" (text "VAL 1") ∷ []) ∷ [])

abbrev pub silent_add : Transcript
silent_add = history (opened 1
    ∷ made_feed 1 0 (text "SET n - 1") (takes 1 "SET n - 1" (text "OK") [] ∷ [])
    ∷ made_feed 1 0 (text "ADD n - 1") (takes 1 "ADD n - 1" (text "VAL 2") [] ∷ []) ∷ [])

-- a sum that does not look at the held value
abbrev pub sum_without_held : Transcript
sum_without_held = history (opened 1
    ∷ made_feed 1 0 (text "SET n - 1") (takes 1 "SET n - 1" (text "OK") [] ∷ [])
    ∷ made_feed 1 0 (text "ADD n - 1")
    (takes 1 "ADD n - 1" (text "VAL 1") (note Replaced "n" "1" ∷ []) ∷ []) ∷ [])

abbrev pub sum_not_stored : Transcript
sum_not_stored = history (opened 1
    ∷ made_feed 1 0 (text "ADD n - 1") (says 1 "ADD n - 1" (text "VAL 1") ∷ []) ∷ [])

abbrev pub cleared_shown : Transcript
cleared_shown = history (opened 1
    ∷ made_feed 1 0 (text "SET a - 1") (takes 1 "SET a - 1" (text "OK") [] ∷ [])
    ∷ made_feed 1 0 (text "CLEAR") (says 1 "CLEAR" (text "OK") ∷ [])
    ∷ made_feed 1 0 (text "GET a") (says 1 "GET a" (text "VAL 1") ∷ []) ∷ [])

abbrev pub clear_tells : Transcript
clear_tells = history (opened 1
    ∷ made_feed 1 0 (text "SET a - 1") (takes 1 "SET a - 1" (text "OK") [] ∷ [])
    ∷ made_feed 1 0 (text "CLEAR") (tells 1 "CLEAR" (text "OK") (note Explicit "a" "1" ∷ []) ∷ [])
    ∷ [])

abbrev pub dropped_shown : Transcript
dropped_shown = history (opened 1
    ∷ made_feed 1 0 (text "SET ab - 1") (takes 1 "SET ab - 1" (text "OK") [] ∷ [])
    ∷ made_feed 1 0 (text "DROPIF a") (says 1 "DROPIF a" (text "OK") ∷ [])
    ∷ made_feed 1 0 (text "GET ab") (says 1 "GET ab" (text "VAL 1") ∷ []) ∷ [])

abbrev pub other_prefix_dropped : Transcript
other_prefix_dropped = history (opened 1
    ∷ made_feed 1 0 (text "SET ab - 1") (takes 1 "SET ab - 1" (text "OK") [] ∷ [])
    ∷ made_feed 1 0 (text "DROPIF b") (says 1 "DROPIF b" (text "OK") ∷ [])
    ∷ made_feed 1 0 (text "GET ab") (says 1 "GET ab" (text "NONE") ∷ []) ∷ [])

abbrev pub first_id : Transcript
first_id = history (opened 1
    ∷ made_feed 1 0 (text "DROPIF z") (says 1 "DROPIF z" (text "ERR id") ∷ []) ∷ [])

abbrev pub refused_drop_covers : Transcript
refused_drop_covers = history (opened 1
    ∷ made_feed 1 0 (text "SET a - 1") (takes 1 "SET a - 1" (text "OK") [] ∷ [])
    ∷ made_feed 1 0 (text "DROPIF z") (says 1 "DROPIF z" (text "OK") ∷ [])
    ∷ made_feed 1 0 (text "DROPIF a") (says 1 "DROPIF a" (text "ERR id") ∷ [])
    ∷ made_feed 1 0 (text "GET a") (says 1 "GET a" (text "NONE") ∷ []) ∷ [])

abbrev pub key_left_out : Transcript
key_left_out = history (opened 1
    ∷ made_feed 1 0 (text "SET a - 1") (takes 1 "SET a - 1" (text "OK") [] ∷ [])
    ∷ made_feed 1 0 (text "SET b - 1") (takes 1 "SET b - 1" (text "OK") [] ∷ [])
    ∷ made_feed 1 0 (text "KEYS") (says 1 "KEYS" (text "KEYS 1" ++ text "a") ∷ []) ∷ [])

abbrev pub keys_out_of_order : Transcript
keys_out_of_order = history (opened 1
    ∷ made_feed 1 0 (text "SET b - 1") (takes 1 "SET b - 1" (text "OK") [] ∷ [])
    ∷ made_feed 1 0 (text "SET a - 1") (takes 1 "SET a - 1" (text "OK") [] ∷ [])
    ∷ made_feed 1 0 (text "KEYS") (says 1 "KEYS" (text "KEYS 2" ++ text "b" ++ text "a") ∷ []) ∷ [])

abbrev pub quit_goes_on : Transcript
quit_goes_on = history (opened 1
    ∷ made_feed 1 0 (text "QUIT" ++ text "GET a")
    (says 1 "QUIT" (text "OK") ∷ says 1 "GET a" (text "NONE") ∷ []) ∷ [])

abbrev pub fed_after_quit : Transcript
fed_after_quit = history (opened 1
    ∷ made_feed 1 0 (text "QUIT") (says 1 "QUIT" (text "OK") ∷ [])
    ∷ made_feed 1 0 (text "GET a") (says 1 "GET a" (text "NONE") ∷ []) ∷ [])

-- an `ADD` over a dead value does not report it as replaced
abbrev pub dead_sum_replaced : Transcript
dead_sum_replaced = history (opened 1
    ∷ made_feed 1 0 (text "SET n - 1") (takes 1 "SET n - 1" (text "OK") [] ∷ [])
    ∷ made_feed 1 7000000 (text "ADD n - 1")
    (takes 1 "ADD n - 1" (text "VAL 1") (note Replaced "n" "1" ∷ []) ∷ []) ∷ [])

-- nor over a covered one
abbrev pub covered_sum_replaced : Transcript
covered_sum_replaced = history (opened 1
    ∷ made_feed 1 0 (text "SET n - 1") (takes 1 "SET n - 1" (text "OK") [] ∷ [])
    ∷ made_feed 1 0 (text "CLEAR") (says 1 "CLEAR" (text "OK") ∷ [])
    ∷ made_feed 1 0 (text "ADD n - 1")
    (takes 1 "ADD n - 1" (text "VAL 1") (note Replaced "n" "1" ∷ []) ∷ []) ∷ [])

pub record BrokenCommands : Type 0 where
  pub has_tells_breaks : BreaksAfter 2 (of_idle_ms 7) has_tells
  pub has_uses_breaks : BreaksAfter 3 (of_idle_ms 7) has_uses
  pub silent_add_breaks : BreaksAfter 2 plain_config silent_add
  pub sum_without_held_breaks : BreaksAfter 2 plain_config sum_without_held
  pub sum_not_stored_breaks : BreaksAfter 1 plain_config sum_not_stored
  pub cleared_shown_breaks : BreaksAfter 3 plain_config cleared_shown
  pub clear_tells_breaks : BreaksAfter 2 plain_config clear_tells
  pub dropped_shown_breaks : BreaksAfter 3 plain_config dropped_shown
  pub other_prefix_dropped_breaks : BreaksAfter 3 plain_config other_prefix_dropped
  pub first_id_breaks : BreaksAfter 1 plain_config first_id
  pub refused_drop_covers_breaks : BreaksAfter 4 plain_config refused_drop_covers
  pub key_left_out_breaks : BreaksAfter 3 plain_config key_left_out
  pub keys_out_of_order_breaks : BreaksAfter 3 plain_config keys_out_of_order
  pub quit_goes_on_breaks : BreaksAfter 1 plain_config quit_goes_on
  pub fed_after_quit_breaks : BreaksAfter 2 plain_config fed_after_quit
  pub dead_sum_replaced_breaks : BreaksAfter 2 (of_idle_ms 7) dead_sum_replaced
  pub covered_sum_replaced_breaks : BreaksAfter 3 plain_config covered_sum_replaced
