-- Rows of single definitions: at their bounds, and where no small run shows what they say.
use Rattle.std.specs.Prelude.{◌≡◌, ℕ, zero, suc, true, false, [], ◌∷◌, Some, None, map}
use Rattle.engine_reference.specs.declared.rules.settings.EvictionPolicy.TheVariants.{Lru, TinyLfu}
use Rattle.engine_reference.specs.declared.data.Entry.{Entry}
use Rattle.engine_reference.specs.declared.data.Registered.{Registered}
use Rattle.engine_reference.specs.Admission.{sketch_room, wants_table}
use Rattle.engine_reference.specs.Calls.{cleared_by, removal_rooms, removal_told, sent, with_predicate, written}
use Rattle.engine_reference.specs.Housekeeper.Waiting.{due_after, is_wanted}
use Rattle.engine_reference.specs.Rules.Changes.{change_from}
use Rattle.engine_reference.specs.Runs.{covers_none, is_due}
use Rattle.engine_reference.specs.State.{Answers}
use Rattle.engine_reference.specs.Times.{later, changed_expiration, tick_of, time_left}
use Rattle.engine_tests.specs.Laws.Playing.{Small, small_answers, new_small, put, put_unsent, take_out, look, seen, run, told_by}

abbrev plain : Small
plain = new_small Lru None None None 0

-- a value of key 1 that was written at moment 0 and step 3
abbrev of_step_three : Small
of_step_three = put 1 5 0 3 plain

-- ---- times

abbrev idle_for_ten : Small
idle_for_ten = new_small Lru None None (Some 10) 0

abbrev used_at_four : Entry ℕ ℕ
used_at_four =
    record { key = 1; value = 5; step = 1; written = 0; used = 4; expires = None; weight = 1 }

pub record RowsOfMoments : Type 0 where
  pub last_moment : later 18446744073709551610 9 ≡ 18446744073709551614
  pub kept : changed_expiration 9 None (Some 4096) ≡ Some 4096
  pub set : changed_expiration 4096 (Some (Some 8192)) (Some 4096) ≡ Some 12288
  pub taken : changed_expiration 9 (Some None) (Some 4096) ≡ None
  pub left : time_left idle_for_ten.settings 5 used_at_four ≡ Some 9
  pub none_left : time_left idle_for_ten.settings 14 used_at_four ≡ Some 0
  pub first_tick : tick_of plain.settings 1073741823 ≡ 0
  pub second_tick : tick_of plain.settings 1073741824 ≡ 1
  -- ticks are counted from the moment of creation, rounded down to 4096
  pub made_later : tick_of (record plain.settings { made = 5000 }) 1073745919 ≡ 0
  pub made_later_second : tick_of (record plain.settings { made = 5000 }) 1073745920 ≡ 1

-- ---- an own expiration that look-ups and writes change: 8192 nanoseconds from each look-up on, 16384 from each later write on

abbrev renewing : Answers ℕ ℕ ℕ ℕ
renewing =
    record small_answers {
      created = λ rules key value now. Some 4096;
      found = λ rules key value now left written. Some (Some 8192);
      updated = λ rules key value now left. Some (Some 16384);
    }

pub record RowsOfChanges : Type 0 where
  pub same : change_from (Some 5) (Some 5) ≡ None
  pub none_still : change_from None None ≡ None
  pub other : change_from (Some 5) (Some 6) ≡ Some (Some 6)
  pub ended : change_from (Some 5) None ≡ Some None
  pub begun : change_from None (Some 5) ≡ Some (Some 5)
  pub created : map (λ r. r.entry.expires) (written renewing (λ a b. true) plain 1 1 5 0 1).records
      ≡ Some 4096 ∷ []
  pub updated : map (λ r. r.entry.expires) (written renewing (λ a b. true)
      (written renewing (λ a b. true) plain 1 1 5 0 1) 1 1 6 4096 2).records ≡ Some 20480 ∷ []

-- ---- what covers, and what is shown

abbrev dead_and_cleared : Small
dead_and_cleared = cleared_by 9 (put 1 5 0 1 idle_for_ten)

abbrev entry_of_one : Entry ℕ ℕ
entry_of_one =
    record { key = 1; value = 5; step = 1; written = 0; used = 0; expires = None; weight = 1 }

abbrev silent : Small
silent = record plain { settings = record plain.settings { tells = false } }

pub record RowsOfCover : Type 0 where
  -- a clear and a predicate cover what was written at earlier steps
  pub clear_of_its_step : seen 1 9 (cleared_by 3 of_step_three) ≡ 6
  pub clear_of_a_later : seen 1 9 (cleared_by 4 of_step_three) ≡ 0
  -- an earlier clear that comes later takes nothing back
  pub earlier_clear : seen 1 9 (cleared_by 2 (cleared_by 4 of_step_three)) ≡ 0
  pub predicate_of_its_step : seen 1 9 (with_predicate (record {
    id = 0;
    predicate = 5;
    step = 3;
  }) of_step_three) ≡ 6
  -- a removed value is not shown, before its removal is applied too
  pub removed : seen 1 9 (take_out 1 of_step_three) ≡ 0
  -- of a dead and covered value a write and a removal report that it expired; a removal of one that lives, that it was explicit
  pub written_over : told_by (put 1 6 10 10 dead_and_cleared) ≡ 11
  pub removal_of_dead : told_by (removal_told small_answers entry_of_one 10 dead_and_cleared) ≡ 11
  pub removal_of_living : told_by (removal_told small_answers entry_of_one 9 dead_and_cleared)
      ≡ 21
  -- a write reports the value that it replaces
  pub value_told : map (λ n. n.value) (put 1 6 0 4 of_step_three).notices ≡ 5 ∷ []
  -- nothing is reported where removals are not
  pub none_told : told_by (put 1 6 0 2 (put 1 5 0 1 silent)) ≡ 0

-- ---- room

pub record RowsOfRoom : Type 0 where
  pub telling : removal_rooms plain.settings ≡ 2
  pub not_telling : removal_rooms silent.settings ≡ 1
  pub written : (put 1 5 0 1 plain).reserved ≡ 999
  pub told : (removal_told small_answers entry_of_one 9 plain).reserved ≡ 999
  pub not_told : (removal_told small_answers entry_of_one 9 silent).reserved ≡ 1000

-- ---- the sketch's table

pub record RowsOfTables : Type 0 where
  pub least : sketch_room 100 0 0 ≡ 128
  pub of_capacity : sketch_room 1000 0 0 ≡ 1000
  -- a hundred records weigh 200, and 500 of that weight fit
  pub of_weight : sketch_room 1000 100 200 ≡ 500
  pub at_half : wants_table (Some 10) plain.sketch 5 ≡ true
  pub below_half : wants_table (Some 10) plain.sketch 4 ≡ false
  pub no_capacity : wants_table None plain.sketch 5 ≡ false
  pub capacity_zero : wants_table (Some 0) plain.sketch 5 ≡ false

-- ---- what runs apply

-- the first of two writes of a key is sent after the second
abbrev sent_backwards : Small
sent_backwards =
    sent 0 (sent 1 (put_unsent 1 1 0 2 (put_unsent 1 10 0 1 (new_small Lru (Some 20) None None 1))))

-- key 1 of weight 1, in a cache for 12
abbrev light : Small
light = put 1 1 0 1 (new_small TinyLfu (Some 12) None None 1)

abbrev covering_five : Registered ℕ
covering_five = record { id = 0; predicate = 5; step = 4 }

pub record RowsOfApplied : Type 0 where
  -- an older write changes nothing of a newer one
  pub older : (run 0 sent_backwards).weight ≡ 1
  -- a write whose ticket was not sent does not count
  pub not_sent : (run 0 (put_unsent 1 5 0 1 plain)).number ≡ 0
  -- reads are counted before writes are applied: key 1 is not admitted as its look-up is counted
  pub reads_first : (run 0 (look 1 0 (put 2 5 0 2 (put 1 5 0 1 plain)))).access ≡ 0 ∷ 1 ∷ []
  pub used_later : (run 0 (look 1 0 (run 0 (put 2 5 0 2 (put 1 5 0 1 plain))))).access
      ≡ 1 ∷ 0 ∷ []
  -- one that is not admitted stays off the access list
  pub not_admitted : (run 0 (look 1 0 (put_unsent 1 5 0 1 plain))).access ≡ []
  -- each write counts with its own weight: 2 is refused while 1 weighs ten
  pub in_turn : told_by (run 0 (put 1 1 0 4 (put 2 5 0 3 (put 1 10 0 2 (run 0 light))))) ≡ 313142
  -- what alone is heavier than the capacity leaves, and nothing else for it
  pub too_heavy : told_by (run 0 (put 2 9 0 2 (run 0 (put 1 1 0 1
      (new_small Lru (Some 3) None None 1))))) ≡ 42
  -- a predicate that covers only what was removed covers nothing
  pub covers_held : covers_none small_answers 0 covering_five of_step_three.records ≡ false
  pub covers_removed : covers_none small_answers 0 covering_five
      (take_out 1 of_step_three).records ≡ true

-- ---- when a run is due

abbrev with_writes : ℕ → Small
with_writes zero = plain
with_writes (suc n) = put 1 5 0 (suc n) (with_writes n)

pub record RowsOfDue : Type 0 where
  pub few : is_due (with_writes 63) 0 ≡ false
  pub many : is_due (with_writes 64) 0 ≡ true
  pub soon : is_due plain 299999999 ≡ false
  pub late : is_due plain 300000000 ≡ true
  pub waiting : is_wanted 64 9 0 ≡ true
  pub not_waiting : is_wanted 63 9 8 ≡ false
  pub at_its_moment : is_wanted 0 9 9 ≡ true
  pub due : due_after 5 ≡ 300000005
  pub due_at_last : due_after 18446744073709551610 ≡ 18446744073709551614
