-- A small cache that is played through the definitions: keys, values and hashes are numbers, a key is its own hash, a predicate is the value that it covers.
use Rattle.std.specs.Prelude.{ℕ, suc, zero, ◌+◌, ◌*◌, ◌==◌, nat_eq, Bool, true, false, not, ◌&&◌, ◌||◌, if◌then◌else◌, List, [], ◌∷◌, Option, Some, None, filter}
use Rattle.policy_base.specs.Counts.{fresh}
use Rattle.engine_reference.specs.declared.rules.causes.RemovalCause.{RemovalCause}
use Rattle.engine_reference.specs.declared.rules.causes.RemovalCause.TheVariants as cause
use Rattle.engine_reference.specs.declared.rules.settings.EvictionPolicy.{EvictionPolicy}
use Rattle.engine_reference.specs.declared.data.Record.{Record}
use Rattle.engine_reference.specs.declared.data.Notice.{Notice}
use Rattle.engine_reference.specs.State.{State, Answers}
use Rattle.engine_reference.specs.Records.{admitted_number, admitted_weight}
use Rattle.engine_reference.specs.Admission.{is_above, wants_table}
use Rattle.engine_reference.specs.Visible.{visible_record, visible_value}
use Rattle.engine_reference.specs.Runs.{all_applied, is_due_for, covers_none, next_to_evict, left}
use Rattle.engine_reference.specs.Calls.{written, sent, with_read, removed_by}

-- each value weighs one (rules 0) or what it is (rules 1); an own expiration of this many nanoseconds (rules above 1)
abbrev pub small_answers : Answers ℕ ℕ ℕ ℕ
small_answers = record {
  weight_of = λ rules key value. if rules == 1 then value else 1;
  created = λ rules key value now. if nat_small rules then None else Some rules;
  found = λ rules key value now left written. None;
  updated = λ rules key value now left. None;
  covers = λ rules predicate key value. predicate == value;
}
  where
    nat_small : ℕ → Bool
    nat_small n = (n == 0) || (n == 1)

abbrev pub Small : Type 0
Small = State ℕ ℕ ℕ ℕ ℕ

-- a cache with this policy and capacity, created at moment 0
abbrev pub new_small : EvictionPolicy → Option ℕ → Option ℕ → Option ℕ → ℕ → Small
new_small policy capacity live idle rules = record {
  records = [];
  access = [];
  order = [];
  cleared = 0;
  predicates = [];
  unsent = [];
  reads = [];
  writes = [];
  notices = [];
  sketch = record { words = 0; counts = []; size = 0; sample = 1 };
  number = 0;
  weight = 0;
  ran = 0;
  table_refused = false;
  next_number = 0;
  next_ticket = 0;
  reserved = 1000;
  name = None;
  settings = record {
    capacity = capacity;
    live = live;
    idle = idle;
    policy = policy;
    tells = true;
    takes_predicates = true;
    made = 0;
  };
  hasher = 0;
  rules = rules;
}

-- ---- calls

-- a value is written, and its ticket kept
abbrev pub put_unsent : (key value now step : ℕ) → Small → Small
put_unsent key value now step s = written small_answers nat_eq s key key value now step

-- a value is written, and its ticket sent
abbrev pub put : (key value now step : ℕ) → Small → Small
put key value now step s = sent s.next_ticket (put_unsent key value now step s)

-- a key is removed, and the ticket sent
abbrev pub take_out : ℕ → Small → Small
take_out key s = sent s.next_ticket (removed_by nat_eq key s)

-- a key is looked up as a read
abbrev pub look : (key now : ℕ) → Small → Small
look key now s = with_read small_answers (visible_record small_answers nat_eq s now key) key now s

-- one more than the value that a look-up returns, or 0
abbrev pub seen : (key now : ℕ) → Small → ℕ
seen key now s = shown (visible_value small_answers nat_eq s now key)
  where
    shown : Option ℕ → ℕ
    shown None = 0
    shown (Some v) = v + 1

-- ---- a run

-- small capacities have a table of 128 words
abbrev with_table : Small → Small
with_table s =
    if wants_table s.settings.capacity s.sketch (admitted_weight s.records) then record s {
      sketch = fresh 128 128;
    } else s

abbrev sweep : ℕ → List (Record ℕ ℕ) → Small → Small
sweep now [] s = s
sweep now (r ∷ rs) s = sweep now rs
    (if r.is_held && is_due_for small_answers s now r cause.Expired
    then left cause.Expired r.number s
    else if r.is_held && is_due_for small_answers s now r cause.Explicit
    then left cause.Explicit r.number s else s)

abbrev evict_one : Option (Record ℕ ℕ) → Small → Small
evict_one None s = s
evict_one (Some r) s = left cause.Size r.number s

abbrev evict : ℕ → Small → Small
evict zero s = s
evict (suc turns) s =
    evict turns (if is_above s.settings.capacity (admitted_weight s.records)
    then evict_one (next_to_evict s) s else s)

abbrev end_predicates : Small → Small
end_predicates s =
    record s {
      predicates = filter (λ p. not (covers_none small_answers s.rules p s.records)) s.predicates;
    }

abbrev counted : ℕ → Small → Small
counted now s =
    record s { number = admitted_number s.records; weight = admitted_weight s.records; ran = now }

-- everything pending is applied, then what is dead or covered leaves, then the excess
abbrev pub run : ℕ → Small → Small
run now s =
    let t = with_table (all_applied s) in
    counted now (evict 8 (end_predicates (sweep now t.records t)))

-- ---- what is reported, as a number: two digits for each notice, its cause (1 expired, 2 explicit, 3 replaced, 4 size) and its key

abbrev code_of : RemovalCause → ℕ
code_of cause.Expired = 1
code_of cause.Explicit = 2
code_of cause.Replaced = 3
code_of cause.Size = 4

abbrev told_from : ℕ → List (Notice ℕ ℕ) → ℕ
told_from before [] = before
told_from before (n ∷ ns) = told_from (100 * before + 10 * code_of n.cause + n.key) ns

abbrev pub told_by : Small → ℕ
told_by s = told_from 0 s.notices
