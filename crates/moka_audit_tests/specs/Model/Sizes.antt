-- Rows of capacities: what is reported as `Size`, and when that is true.
use Rattle.std.specs.Prelude.{[], ◌∷◌, Some}
use Rattle.audit_model.specs.declared.transcript.Transcript.{Transcript}
use Rattle.audit_model.specs.declared.transcript.RemovalCause.TheVariants.{Explicit, Replaced, Size}
use Rattle.moka_audit_tests.specs.Model.Making.{text, opened, made_feed, says, takes, takes_second, tells, note, history, plain_config, of_capacity, of_bytes, of_two_parts, IsGood, BreaksAfter}

-- ---- good

abbrev pub oldest_leaves : Transcript
oldest_leaves = history (opened 1
    ∷ made_feed 1 0 (text "SET a - 1") (takes 1 "SET a - 1" (text "OK") [] ∷ [])
    ∷ made_feed 1 0 (text "SYNC") (says 1 "SYNC" (text "SYNC 1 1") ∷ [])
    ∷ made_feed 1 0 (text "SET b - 2") (takes 1 "SET b - 2" (text "OK") [] ∷ [])
    ∷ made_feed 1 0 (text "SYNC") (says 1 "SYNC" (text "SYNC 2 2") ∷ [])
    ∷ made_feed 1 0 (text "SET c - 3") (takes 1 "SET c - 3" (text "OK") [] ∷ [])
    ∷ made_feed 1 0 (text "SYNC") (tells 1 "SYNC" (text "SYNC 2 2") (note Size "a" "1" ∷ []) ∷ [])
    ∷ made_feed 1 0 (text "GET a") (says 1 "GET a" (text "NONE") ∷ []) ∷ [])

abbrev pub used_stays : Transcript
used_stays = history (opened 1
    ∷ made_feed 1 0 (text "SET a - 1") (takes 1 "SET a - 1" (text "OK") [] ∷ [])
    ∷ made_feed 1 0 (text "SYNC") (says 1 "SYNC" (text "SYNC 1 1") ∷ [])
    ∷ made_feed 1 0 (text "SET b - 2") (takes 1 "SET b - 2" (text "OK") [] ∷ [])
    ∷ made_feed 1 0 (text "SYNC") (says 1 "SYNC" (text "SYNC 2 2") ∷ [])
    ∷ made_feed 1 0 (text "GET a") (says 1 "GET a" (text "VAL 1") ∷ [])
    ∷ made_feed 1 0 (text "SYNC") (says 1 "SYNC" (text "SYNC 2 2") ∷ [])
    ∷ made_feed 1 0 (text "SET c - 3") (takes 1 "SET c - 3" (text "OK") [] ∷ [])
    ∷ made_feed 1 0 (text "SYNC") (tells 1 "SYNC" (text "SYNC 2 2") (note Size "b" "2" ∷ []) ∷ [])
    ∷ made_feed 1 0 (text "GET a") (says 1 "GET a" (text "VAL 1") ∷ [])
    ∷ made_feed 1 0 (text "GET b") (says 1 "GET b" (text "NONE") ∷ [])
    ∷ made_feed 1 0 (text "GET c") (says 1 "GET c" (text "VAL 3") ∷ []) ∷ [])

-- a value heavier than its share is accepted
abbrev pub too_heavy : Transcript
too_heavy = history (opened 1
    ∷ made_feed 1 0 (text "SET a - four") (takes 1 "SET a - four" (text "OK") [] ∷ [])
    ∷ made_feed 1 0 (text "GET a") (says 1 "GET a" (text "VAL four") ∷ [])
    ∷ made_feed 1 0 (text "SYNC")
    (tells 1 "SYNC" (text "SYNC 0 0") (note Size "a" "four" ∷ []) ∷ [])
    ∷ made_feed 1 0 (text "GET a") (says 1 "GET a" (text "NONE") ∷ []) ∷ [])

abbrev pub no_room : Transcript
no_room = history (opened 1
    ∷ made_feed 1 0 (text "SET a - 1") (says 1 "SET a - 1" (text "OFF") ∷ [])
    ∷ made_feed 1 0 (text "GET a") (says 1 "GET a" (text "NONE") ∷ [])
    ∷ made_feed 1 0 (text "SYNC") (says 1 "SYNC" (text "SYNC 0 0") ∷ []) ∷ [])

-- b came while a was heavy, and goes after a has shrunk
abbrev pub judged_before_it_shrinks : Transcript
judged_before_it_shrinks = history (opened 1
    ∷ made_feed 1 0 (text "SET a - aaaaaaaaaa") (takes 1 "SET a - aaaaaaaaaa" (text "OK") [] ∷ [])
    ∷ made_feed 1 0 (text "SYNC") (says 1 "SYNC" (text "SYNC 1 10") ∷ [])
    ∷ made_feed 1 0 (text "SET b - bbbbb") (takes 1 "SET b - bbbbb" (text "OK") [] ∷ [])
    ∷ made_feed 1 0 (text "SET a - c")
    (takes 1 "SET a - c" (text "OK") (note Replaced "a" "aaaaaaaaaa" ∷ []) ∷ [])
    ∷ made_feed 1 0 (text "SYNC")
    (tells 1 "SYNC" (text "SYNC 1 1") (note Size "b" "bbbbb" ∷ []) ∷ []) ∷ [])

abbrev pub size_after_delete : Transcript
size_after_delete = history (opened 1
    ∷ made_feed 1 0 (text "SET a - 1") (takes 1 "SET a - 1" (text "OK") [] ∷ [])
    ∷ made_feed 1 0 (text "SET b - 2") (takes 1 "SET b - 2" (text "OK") [] ∷ [])
    ∷ made_feed 1 0 (text "SET c - 3") (takes 1 "SET c - 3" (text "OK") [] ∷ [])
    ∷ made_feed 1 0 (text "DEL c") (tells 1 "DEL c" (text "OK") (note Explicit "c" "3" ∷ []) ∷ [])
    ∷ made_feed 1 0 (text "GET a") (tells 1 "GET a" (text "VAL 1") (note Size "a" "1" ∷ []) ∷ [])
    ∷ [])

-- a step may report the very value that it accepts
abbrev pub size_in_its_step : Transcript
size_in_its_step = history (opened 1
    ∷ made_feed 1 0 (text "SET a - 1") (takes 1 "SET a - 1" (text "OK") [] ∷ [])
    ∷ made_feed 1 0 (text "SET b - 2") (takes 1 "SET b - 2" (text "OK") [] ∷ [])
    ∷ made_feed 1 0 (text "SET c - 3")
    (takes 1 "SET c - 3" (text "OK") (note Size "c" "3" ∷ []) ∷ [])
    ∷ made_feed 1 0 (text "SYNC") (says 1 "SYNC" (text "SYNC 2 2") ∷ []) ∷ [])

abbrev pub size_twice : Transcript
size_twice = history (opened 1
    ∷ made_feed 1 0 (text "SET a - 1") (takes 1 "SET a - 1" (text "OK") [] ∷ [])
    ∷ made_feed 1 0 (text "SET b - 2") (takes 1 "SET b - 2" (text "OK") [] ∷ [])
    ∷ made_feed 1 0 (text "SET c - 3")
    (takes 1 "SET c - 3" (text "OK") (note Size "c" "3" ∷ note Size "a" "1" ∷ []) ∷ [])
    ∷ made_feed 1 0 (text "SYNC") (says 1 "SYNC" (text "SYNC 1 1") ∷ []) ∷ [])

-- each part has its own share
abbrev pub a_share_each : Transcript
a_share_each = history (opened 1
    ∷ made_feed 1 0 (text "SET a - 1") (takes 1 "SET a - 1" (text "OK") [] ∷ [])
    ∷ made_feed 1 0 (text "SET b - 1") (takes_second 1 "SET b - 1" (text "OK") [] ∷ [])
    ∷ made_feed 1 0 (text "SYNC") (says 1 "SYNC" (text "SYNC 2 2") ∷ []) ∷ [])

-- a share is rounded up
abbrev pub a_share_rounded_up : Transcript
a_share_rounded_up = history (opened 1
    ∷ made_feed 1 0 (text "SET a - 1") (takes 1 "SET a - 1" (text "OK") [] ∷ [])
    ∷ made_feed 1 0 (text "SET b - 1") (takes 1 "SET b - 1" (text "OK") [] ∷ [])
    ∷ made_feed 1 0 (text "SYNC") (says 1 "SYNC" (text "SYNC 2 2") ∷ []) ∷ [])

-- a step that tells `Size` of one part ends nothing of the other
abbrev pub told_of_both_parts : Transcript
told_of_both_parts = history (opened 1
    ∷ made_feed 1 0 (text "SET a - 1") (takes 1 "SET a - 1" (text "OK") [] ∷ [])
    ∷ made_feed 1 0 (text "SET b - 1") (takes 1 "SET b - 1" (text "OK") [] ∷ [])
    ∷ made_feed 1 0 (text "SET c - 1") (takes_second 1 "SET c - 1" (text "OK") [] ∷ [])
    ∷ made_feed 1 0 (text "SET d - 1") (takes_second 1 "SET d - 1" (text "OK") [] ∷ [])
    ∷ made_feed 1 0 (text "DEL d") (tells 1 "DEL d" (text "OK") (note Explicit "d" "1" ∷ []) ∷ [])
    ∷ made_feed 1 0 (text "GET a") (tells 1 "GET a" (text "VAL 1") (note Size "a" "1" ∷ []) ∷ [])
    ∷ made_feed 1 0 (text "GET c") (tells 1 "GET c" (text "VAL 1") (note Size "c" "1" ∷ []) ∷ [])
    ∷ [])

pub record GoodSizes : Type 0 where
  pub oldest_leaves_good : IsGood (of_capacity 2) oldest_leaves
  pub used_stays_good : IsGood (of_capacity 2) used_stays
  pub too_heavy_good : IsGood (of_bytes 3) too_heavy
  pub no_room_good : IsGood (of_capacity 0) no_room
  pub judged_before_it_shrinks_good : IsGood (of_bytes 12) judged_before_it_shrinks
  pub size_after_delete_good : IsGood (of_capacity 2) size_after_delete
  pub size_in_its_step_good : IsGood (of_capacity 2) size_in_its_step
  pub size_twice_good : IsGood (of_capacity 2) size_twice
  pub a_share_each_good : IsGood (of_two_parts (Some 2)) a_share_each
  pub a_share_rounded_up_good : IsGood (of_two_parts (Some 3)) a_share_rounded_up
  pub told_of_both_parts_good : IsGood (of_two_parts (Some 2)) told_of_both_parts

-- ---- broken

abbrev pub keeps_nothing : Transcript
keeps_nothing = history (opened 1
    ∷ made_feed 1 0 (text "SET a - 1")
    (takes 1 "SET a - 1" (text "OK") (note Size "a" "1" ∷ []) ∷ [])
    ∷ made_feed 1 0 (text "GET a") (says 1 "GET a" (text "NONE") ∷ []) ∷ [])

abbrev pub too_much_after_sync : Transcript
too_much_after_sync = history (opened 1
    ∷ made_feed 1 0 (text "SET a - 1") (takes 1 "SET a - 1" (text "OK") [] ∷ [])
    ∷ made_feed 1 0 (text "SET b - 2") (takes 1 "SET b - 2" (text "OK") [] ∷ [])
    ∷ made_feed 1 0 (text "SET c - 3") (takes 1 "SET c - 3" (text "OK") [] ∷ [])
    ∷ made_feed 1 0 (text "SYNC") (says 1 "SYNC" (text "SYNC 3 3") ∷ []) ∷ [])

-- a write reports its key's older value as replaced, also if the part was too full
abbrev pub set_tells_size : Transcript
set_tells_size = history (opened 1
    ∷ made_feed 1 0 (text "SET a - 1") (takes 1 "SET a - 1" (text "OK") [] ∷ [])
    ∷ made_feed 1 0 (text "SET b - 1") (takes 1 "SET b - 1" (text "OK") [] ∷ [])
    ∷ made_feed 1 0 (text "SET c - 1") (takes 1 "SET c - 1" (text "OK") [] ∷ [])
    ∷ made_feed 1 0 (text "SET a - 2")
    (takes 1 "SET a - 2" (text "OK") (note Size "a" "1" ∷ []) ∷ []) ∷ [])

-- a `SYNC` ends what counts
abbrev pub size_after_sync : Transcript
size_after_sync = history (opened 1
    ∷ made_feed 1 0 (text "SET a - 1") (takes 1 "SET a - 1" (text "OK") [] ∷ [])
    ∷ made_feed 1 0 (text "SET b - 2") (takes 1 "SET b - 2" (text "OK") [] ∷ [])
    ∷ made_feed 1 0 (text "SET c - 3") (takes 1 "SET c - 3" (text "OK") [] ∷ [])
    ∷ made_feed 1 0 (text "SYNC") (tells 1 "SYNC" (text "SYNC 2 2") (note Size "a" "1" ∷ []) ∷ [])
    ∷ made_feed 1 0 (text "GET b") (tells 1 "GET b" (text "VAL 2") (note Size "b" "2" ∷ []) ∷ [])
    ∷ [])

abbrev pub size_after_delete_and_sync : Transcript
size_after_delete_and_sync = history (opened 1
    ∷ made_feed 1 0 (text "SET a - 1") (takes 1 "SET a - 1" (text "OK") [] ∷ [])
    ∷ made_feed 1 0 (text "SET b - 2") (takes 1 "SET b - 2" (text "OK") [] ∷ [])
    ∷ made_feed 1 0 (text "SET c - 3") (takes 1 "SET c - 3" (text "OK") [] ∷ [])
    ∷ made_feed 1 0 (text "DEL c") (tells 1 "DEL c" (text "OK") (note Explicit "c" "3" ∷ []) ∷ [])
    ∷ made_feed 1 0 (text "SYNC") (says 1 "SYNC" (text "SYNC 2 2") ∷ [])
    ∷ made_feed 1 0 (text "GET a") (tells 1 "GET a" (text "VAL 1") (note Size "a" "1" ∷ []) ∷ [])
    ∷ [])

-- the part was too full only before this value came
abbrev pub size_of_later : Transcript
size_of_later = history (opened 1
    ∷ made_feed 1 0 (text "SET a - 1") (takes 1 "SET a - 1" (text "OK") [] ∷ [])
    ∷ made_feed 1 0 (text "SET b - 2") (takes 1 "SET b - 2" (text "OK") [] ∷ [])
    ∷ made_feed 1 0 (text "SET c - 3") (takes 1 "SET c - 3" (text "OK") [] ∷ [])
    ∷ made_feed 1 0 (text "DEL c") (tells 1 "DEL c" (text "OK") (note Explicit "c" "3" ∷ []) ∷ [])
    ∷ made_feed 1 0 (text "DEL b") (tells 1 "DEL b" (text "OK") (note Explicit "b" "2" ∷ []) ∷ [])
    ∷ made_feed 1 0 (text "SET d - 4") (takes 1 "SET d - 4" (text "OK") [] ∷ [])
    ∷ made_feed 1 0 (text "GET d") (tells 1 "GET d" (text "VAL 4") (note Size "d" "4" ∷ []) ∷ [])
    ∷ [])

-- a step that tells `Size` ends what counts
abbrev pub size_twice_apart : Transcript
size_twice_apart = history (opened 1
    ∷ made_feed 1 0 (text "SET a - 1") (takes 1 "SET a - 1" (text "OK") [] ∷ [])
    ∷ made_feed 1 0 (text "SET b - 2") (takes 1 "SET b - 2" (text "OK") [] ∷ [])
    ∷ made_feed 1 0 (text "SET c - 3")
    (takes 1 "SET c - 3" (text "OK") (note Size "c" "3" ∷ []) ∷ [])
    ∷ made_feed 1 0 (text "GET a") (tells 1 "GET a" (text "VAL 1") (note Size "a" "1" ∷ []) ∷ [])
    ∷ [])

-- only the other part was too full
abbrev pub size_of_the_other_part : Transcript
size_of_the_other_part = history (opened 1
    ∷ made_feed 1 0 (text "SET a - 1") (takes 1 "SET a - 1" (text "OK") [] ∷ [])
    ∷ made_feed 1 0 (text "SET b - 1") (takes 1 "SET b - 1" (text "OK") [] ∷ [])
    ∷ made_feed 1 0 (text "SET c - 1") (takes_second 1 "SET c - 1" (text "OK") [] ∷ [])
    ∷ made_feed 1 0 (text "GET c") (tells 1 "GET c" (text "VAL 1") (note Size "c" "1" ∷ []) ∷ [])
    ∷ [])

-- the value that a write replaces does not count beside the new one
abbrev pub overwriting_fills_nothing : Transcript
overwriting_fills_nothing = history (opened 1
    ∷ made_feed 1 0 (text "SET a - 1") (takes 1 "SET a - 1" (text "OK") [] ∷ [])
    ∷ made_feed 1 0 (text "SET b - 1") (takes 1 "SET b - 1" (text "OK") [] ∷ [])
    ∷ made_feed 1 0 (text "SET b - 2")
    (takes 1 "SET b - 2" (text "OK") (note Replaced "b" "1" ∷ note Size "a" "1" ∷ []) ∷ []) ∷ [])

pub record BrokenSizes : Type 0 where
  pub keeps_nothing_breaks : BreaksAfter 1 plain_config keeps_nothing
  pub too_much_after_sync_breaks : BreaksAfter 4 (of_capacity 2) too_much_after_sync
  pub set_tells_size_breaks : BreaksAfter 4 (of_capacity 2) set_tells_size
  pub size_after_sync_breaks : BreaksAfter 5 (of_capacity 2) size_after_sync
  pub size_after_delete_and_sync_breaks : BreaksAfter 6 (of_capacity 2) size_after_delete_and_sync
  pub size_of_later_breaks : BreaksAfter 7 (of_capacity 2) size_of_later
  pub size_twice_apart_breaks : BreaksAfter 4 (of_capacity 2) size_twice_apart
  pub size_of_the_other_part_breaks : BreaksAfter 4 (of_two_parts (Some 2)) size_of_the_other_part
  pub overwriting_fills_nothing_breaks : BreaksAfter 3 (of_capacity 2) overwriting_fills_nothing
