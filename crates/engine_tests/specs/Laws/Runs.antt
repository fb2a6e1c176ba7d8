-- The rows of small runs.
use Rattle.std.specs.Prelude.{◌≡◌, ◌-◌, ℕ, List, [], ◌∷◌, Some, None, option_map, min, length}
use Rattle.engine_reference.specs.declared.rules.causes.RemovalCause.TheVariants as cause
use Rattle.engine_reference.specs.declared.rules.settings.EvictionPolicy.TheVariants.{Lru, TinyLfu}
use Rattle.engine_reference.specs.declared.data.Write.{Write}
use Rattle.engine_reference.specs.declared.data.Write.TheVariants.{Put, Removed}
use Rattle.engine_reference.specs.Admission.{shortest_front}
use Rattle.engine_reference.specs.Calls.{sent}
use Rattle.engine_reference.specs.Records.{admitted_number, admitted_weight, settled_in}
use Rattle.engine_reference.specs.Runs.{RunsToEnd, IsApplied, after_write, left, lacks_table}
use Rattle.engine_tests.specs.Laws.Playing.{Small, small_answers, new_small, put, put_unsent, run, told_by}
use Rattle.engine_reference.specs.RunLaws.Fronts.{NothingIsDue}
use Rattle.engine_reference.specs.RunLaws.Points.{IsInOrder}
use Rattle.engine_reference.specs.RunLaws.Sweeping.{IsTimely, LeavesNoneDue}

-- the oldest write is applied
abbrev pub applied_one : Small → Small
applied_one s = go s.writes
  where
    go : List Write → Small
    go [] = s
    go (w ∷ rest) = after_write w (record s { writes = rest })

-- the end of a run, which found no memory for the sketch's table if it lacks one
abbrev pub ended : ℕ → Small → Small
ended now s =
    record s {
      number = admitted_number s.records;
      weight = min (admitted_weight s.records) 18446744073709551615;
      ran = now;
      table_refused = lacks_table s;
    }

abbrev kept_weights : List Write → List ℕ
kept_weights [] = []
kept_weights (Put u ∷ ws) = u.kept ∷ kept_weights ws
kept_weights (Removed n ∷ ws) = kept_weights ws

-- ---- three values of weight one in a cache for two

abbrev pub full : Small
full = put 3 7 0 3 (put 2 6 0 2 (put 1 5 0 1 (new_small Lru (Some 2) None None 0)))

abbrev pub written_all : Small
written_all = applied_one (applied_one (applied_one full))

abbrev pub evicted : Small
evicted = left cause.Size 0 written_all

pub record RowsOfPoints : Type 0 where
  pub order : IsInOrder full
  pub run : RunsToEnd small_answers 9 full (ended 9 evicted)
  pub told : told_by evicted ≡ 41
  pub kept : kept_weights full.writes ≡ 1 ∷ 2 ∷ 3 ∷ []
  -- and it is in order again
  pub again : IsInOrder (ended 9 evicted)

-- ---- tickets that are sent in another order: key 1 with weight 10 and then 1, and key 2 with weight 5, in a cache for 10

abbrev sent_unsorted : Small
sent_unsorted =
    sent 1 (sent 2 (sent 0 (put_unsent 2 5 0 3
    (put_unsent 1 1 0 2 (put_unsent 1 10 0 1 (new_small TinyLfu (Some 10) None None 1))))))

-- in the order in which they were made
abbrev sent_sorted : Small
sent_sorted =
    sent 2 (sent 1 (sent 0 (put_unsent 2 5 0 3
    (put_unsent 1 1 0 2 (put_unsent 1 10 0 1 (new_small TinyLfu (Some 10) None None 1))))))

pub record RowsOfOrder : Type 0 where
  -- the second key is refused, although never more than 10 was held
  pub kept : kept_weights sent_unsorted.writes ≡ 10 ∷ 6 ∷ 1 ∷ []
  pub refused : told_by (run 9 sent_unsorted) ≡ 3142
  -- sent in order it is admitted
  pub kept_sorted : kept_weights sent_sorted.writes ≡ 10 ∷ 1 ∷ 6 ∷ []
  pub admitted : told_by (run 9 sent_sorted) ≡ 31
  pub weight : (run 9 sent_sorted).weight ≡ 6

pub record RowsOfFronts : Type 0 where
  pub applied : IsApplied written_all
  pub quiet : NothingIsDue small_answers 9 written_all
  pub weight : admitted_weight written_all.records ≡ 3
  pub victims : option_map (λ vs. length vs) (shortest_front
      (admitted_weight written_all.records - 2) (settled_in written_all.records written_all.access))
      ≡ Some 1

-- ---- live 16 s: one value of moment 0 and one of 10 s, and a run at 17 s

abbrev pub two : Small
two = put 2 6 10000000000 2 (put 1 5 0 1 (new_small Lru None (Some 16000000000) None 0))

abbrev pub both_written : Small
both_written = applied_one (applied_one two)

abbrev pub swept : Small
swept = left cause.Expired 0 both_written

pub record RowsOfSweeping : Type 0 where
  pub timely : IsTimely 10000000000 2 two
  pub run : RunsToEnd small_answers 17000000000 two (ended 17000000000 swept)
  pub order : swept.order ≡ 1 ∷ []
  pub told : told_by swept ≡ 11
  pub held : length swept.records ≡ 1
  pub none_due : LeavesNoneDue 17000000000 (ended 17000000000 swept)
