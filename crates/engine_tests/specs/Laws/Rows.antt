-- The rows: what the small cache reports, counts and shows.
use Rattle.std.specs.Prelude.{◌≡◌, ℕ, suc, zero, Some, None, true, false, length}
use Rattle.engine_reference.specs.declared.rules.settings.EvictionPolicy.TheVariants.{TinyLfu, Lru}
use Rattle.engine_reference.specs.Calls.{is_full, sent, cleared_by, with_predicate}
use Rattle.engine_reference.specs.Times.{own_expiration}
use Rattle.engine_tests.specs.Laws.Playing.{Small, new_small, put, put_unsent, take_out, look, seen, run, told_by}

-- ---- times

abbrev second : ℕ
second = 1000000000

abbrev living : Small
living = new_small Lru None (Some 16000000000) (Some 7000000000) 0

pub record RowsOfTimes : Type 0 where
  -- live 16 s, idle 7 s: shown just before the idle time ends, not as it ends
  pub before_idle : seen 1 6999999999 (put 1 5 0 1 living) ≡ 6
  pub at_idle : seen 1 7000000000 (put 1 5 0 1 living) ≡ 0
  -- a look-up is a use
  pub used : seen 1 13999999998 (look 1 6999999999 (put 1 5 0 1 living)) ≡ 6
  -- and does not lengthen the live time
  pub at_live : seen 1 16000000000 (look 1 13000000000 (look 1 6500000000 (put 1 5 0 1 living))) ≡ 0
  -- a write over a value whose idle time has ended reports it as `Expired`, and one right before as `Replaced`
  pub expired : told_by (put 1 6 7000000000 2 (put 1 5 0 1 living)) ≡ 11
  pub replaced : told_by (put 1 6 6999999999 2 (put 1 5 0 1 living)) ≡ 31
  -- own expiration 1 s, kept in steps of 4096: an absent value is held until a run
  pub kept : own_expiration 0 (Some 1000000000) ≡ Some 999997440
  pub own_before : seen 1 999997439 (put 1 5 0 1 (new_small Lru None None None 1000000000)) ≡ 6
  pub own_at : seen 1 999997440 (put 1 5 0 1 (new_small Lru None None None 1000000000)) ≡ 0
  pub own_held : (run 1 (put 1 5 0 1 (new_small Lru None None None 1000000000))).number ≡ 1
  pub own_gone : (run 2000000000
      (run 1 (put 1 5 0 1 (new_small Lru None None None 1000000000)))).number ≡ 0
  pub own_told : told_by (run 2000000000 (put 1 5 0 1 (new_small Lru None None None 1000000000)))
      ≡ 11

-- ---- clears and predicates

abbrev endless : Small
endless = new_small Lru None None None 0

-- key 1, a clear and key 1 again, at one moment
abbrev written_twice : Small
written_twice = put 1 6 9 3 (cleared_by 2 (put 1 5 9 1 endless))

-- values 5, 6 and 7, a predicate on the value 5, and then 5 again under another key
abbrev with_rule : Small
with_rule =
    put 4 5 9 5 (with_predicate (record {
      id = 0;
      predicate = 5;
      step = 4;
    }) (put 3 7 9 3 (put 2 6 9 2 (put 1 5 9 1 endless))))

pub record RowsOfCoverage : Type 0 where
  pub cleared : seen 1 9 (cleared_by 2 (put 1 5 9 1 endless)) ≡ 0
  pub written_again : seen 1 9 written_twice ≡ 7
  pub told_explicit : told_by written_twice ≡ 21
  pub stays : told_by (run 9 written_twice) ≡ 21
  pub covered : seen 1 9 with_rule ≡ 0
  pub uncovered : seen 2 9 with_rule ≡ 7
  pub later : seen 4 9 with_rule ≡ 6
  -- a run takes the covered one, and the predicate leaves
  pub run_tells : told_by (run 9 with_rule) ≡ 21
  pub predicate_left : length (run 9 with_rule).predicates ≡ 0
  pub number : (run 9 with_rule).number ≡ 3
  -- a removed key is reported by whoever removed it, and by no run
  pub removed : told_by (run 9 (take_out 1 (put 1 5 9 1 endless))) ≡ 0
  pub removed_number : (run 9 (take_out 1 (put 1 5 9 1 endless))).number ≡ 0

-- ---- least recently used

-- capacity 2: keys 1 and 2, a run, 1 is used, key 3 is written
abbrev of_two : Small
of_two =
    put 3 5 0 3 (look 1 0 (run 0 (put 2 5 0 2 (put 1 5 0 1 (new_small Lru (Some 2) None None 0)))))

-- capacity 4: key 0 is written again after a run, and its ticket (number 1) held; keys 1 to 4 are written
abbrev of_four : Small
of_four =
    put 4 5 0 6 (put 3 5 0 5 (put 2 5 0 4 (put 1 5 0 3
    (put_unsent 0 6 0 2 (run 0 (put 0 5 0 1 (new_small Lru (Some 4) None None 0)))))))

pub record RowsOfLeastRecentlyUsed : Type 0 where
  pub told_two : told_by (run 0 of_two) ≡ 42
  pub number_two : (run 0 of_two).number ≡ 2
  pub shows_one : seen 1 0 (run 0 of_two) ≡ 6
  pub shows_two : seen 2 0 (run 0 of_two) ≡ 0
  -- the record with an unapplied write is passed over: 3 for the write over key 0, 4 for key 1
  pub told_four : told_by (run 0 of_four) ≡ 3041
  pub number_four : (run 0 of_four).number ≡ 4
  -- its ticket is sent: nothing more is reported
  pub told_later : told_by (run 0 (sent 1 (run 0 of_four))) ≡ 3041
  pub number_later : (run 0 (sent 1 (run 0 of_four))).number ≡ 4
  -- without a capacity nothing is evicted
  pub endless_number : (run 0 (put 3 5 0 3 (put 2 5 0 2 (put 1 5 0 1 endless)))).number ≡ 3
  -- what alone is heavier than the capacity is refused
  pub too_heavy : told_by (run 0 (put 1 9 0 1 (new_small Lru (Some 3) None None 1))) ≡ 41

-- ---- frequencies

-- capacity 3: 0, 1 written and used, a run; 2 written and used, a run; 0, 1 used, a run
abbrev warm : Small
warm =
    run 0 (look 1 0 (look 0 0 (run 0 (look 2 0 (put 2 5 0 3 (run 0 (look 1 0
    (look 0 0 (put 1 5 0 2 (put 0 5 0 1 (new_small TinyLfu (Some 3) None None 0)))))))))))

-- key 3 is written, a run comes, and 3 is looked up
abbrev asked_for : ℕ → Small → Small
asked_for step s = look 3 0 (run 0 (put 3 5 0 step s))

-- capacity 12 by weight: key 1 of weight 10, a run, key 2 of weight 5 and then 1
abbrev shrinking : Small
shrinking =
    put 2 1 0 3 (put 2 5 0 2 (run 0 (put 1 10 0 1 (new_small TinyLfu (Some 12) None None 1))))

-- the same with the other key: 1 of weight 10, a run, 2 of weight 5, and 1 shrinks to 1
abbrev shrinking_other : Small
shrinking_other =
    put 1 1 0 3 (put 2 5 0 2 (run 0 (put 1 10 0 1 (new_small TinyLfu (Some 12) None None 1))))

-- capacity 31 by weight: 0 of 10 and 1 of 15 written and used, a run; 2 of 5 written and used, a run; 0, 1 used, a run
abbrev heavy : Small
heavy =
    run 0 (look 1 0 (look 0 0 (run 0 (look 2 0 (put 2 5 0 3 (run 0 (look 1 0
    (look 0 0 (put 1 15 0 2 (put 0 10 0 1 (new_small TinyLfu (Some 31) None None 1)))))))))))

-- key 3 of 15 is written, a run comes, and 3 is looked up
abbrev heavy_asked_for : ℕ → Small → Small
heavy_asked_for step s = look 3 0 (run 0 (put 3 15 0 step s))

-- three times, and then it is written and a run comes
abbrev heavy_in : Small
heavy_in = run 0 (put 3 15 0 7 (heavy_asked_for 6 (heavy_asked_for 5 (heavy_asked_for 4 heavy))))

pub record RowsOfFrequencies : Type 0 where
  -- its weight takes two victims, 2 and then 0, and it has to be requested more often than both together
  pub two_victims : told_by heavy_in ≡ 4343434240
  -- 1 grows to 20, and the least recently used one is evicted
  pub grown : told_by (run 0 (put 1 20 0 8 heavy_in)) ≡ 43434342403143
  pub grown_weight : (run 0 (put 1 20 0 8 heavy_in)).weight ≡ 20
  -- refused twice, while it was not requested more often than the least recently used one
  pub once : told_by (asked_for 4 warm) ≡ 43
  pub twice : told_by (asked_for 5 (asked_for 4 warm)) ≡ 4343
  -- then it is admitted for 2
  pub third : told_by (run 0 (put 3 5 0 6 (asked_for 5 (asked_for 4 warm)))) ≡ 434342
  pub shown : seen 3 0 (run 0 (put 3 5 0 6 (asked_for 5 (asked_for 4 warm)))) ≡ 6
  -- a refused write of a record that was written since reports nothing; the later one is judged by itself
  pub shrunk : told_by (run 0 shrinking) ≡ 32
  pub shrunk_weight : (run 0 shrinking).weight ≡ 11
  -- writes are judged in order: 2 is refused before 1 shrinks
  pub in_order : told_by (run 0 shrinking_other) ≡ 3142
  pub in_order_weight : (run 0 shrinking_other).weight ≡ 1
  -- counts are kept over a clear: 0, 1, 2 are reported, come again, and then 3 is admitted for 0
  pub kept_counts : told_by (run 0 (put 3 5 0 10 (run 0 (put 2 5 0 9
      (put 1 5 0 8 (put 0 5 0 7 (run 0 (cleared_by 6 (asked_for 5 (asked_for 4 warm))))))))))
      ≡ 434320212240

-- ---- sending

abbrev written_often : ℕ → Small
written_often zero = endless
written_often (suc n) = put 1 5 0 (suc n) (written_often n)

pub record RowsOfSending : Type 0 where
  pub full : is_full (written_often 128) ≡ true
  pub not_full : is_full (written_often 127) ≡ false
  pub empty_again : is_full (run 0 (written_often 128)) ≡ false
  -- a ticket that was sent is unknown: sending it again changes nothing
  pub again : length (sent 0 (put 1 5 0 1 endless)).writes ≡ 1
