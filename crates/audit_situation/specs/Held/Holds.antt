-- What the representation of the values held means.
use Rattle.std.specs.Prelude.{◌≡◌, ℕ, Bool, true, not, ◌&&◌, ◌||◌, ◌==◌, nat_lt, nat_le, nat_eq, List, map, length, get_or, if◌then◌else◌}
use Rattle.std.specs.List.{list_all, starts_with, sum_by}
use Rattle.std.specs.BTreeSet.{BTreeSet, contains_by}
use Rattle.std.specs.Cmp.Lexicographic.{slice_cmp}
use Rattle.std.specs.Ordering.{nat_cmp}
use Rattle.std.specs.declared.vec.Vec.{Vec}
use Rattle.std.specs.declared.alloc.Global.{Global}
use Rattle.audit_model.specs.Bytewise.{same}
use Rattle.audit_model.specs.History.{Value}
use Rattle.audit_model.specs.Situation.{HeldValue}
use Rattle.audit_situation.specs.Held.Slots.{HeldSlot}
use Rattle.audit_situation.specs.Held.Weights.{weight_of_part}

-- the keys of the values that no prefix covers
abbrev pub Open : Type 0
Open = BTreeSet (Vec ℕ Global)

-- the key is among them
abbrev pub is_open_key : List ℕ → Open → Bool
is_open_key key open_keys = contains_by (λ k. slice_cmp nat_cmp key k.items) open_keys

-- a value held, by the open keys, and by the numbers at which each part's weight was last a point
abbrev pub held_by : Open → List ℕ → HeldSlot → HeldValue
held_by open_keys marks s =
    record {
      value = s.value;
      last_use = s.last_use;
      covered = not (is_open_key s.value.key open_keys);
      evictable = nat_lt s.stamp (get_or marks s.value.part 0);
    }

-- each number was given out before this one, and each part is one of 256
abbrev pub are_sound : ℕ → List HeldSlot → Bool
are_sound next slots = list_all (λ s. nat_lt s.stamp next && nat_lt s.value.part 256) slots

-- no mark is a later number
abbrev pub are_past_marks : ℕ → List ℕ → Bool
are_past_marks next marks = list_all (λ m. nat_le m next) marks

-- the values of slots
abbrev pub values_in : List HeldSlot → List Value
values_in slots = map (λ s. s.value) slots

-- a value that is used at that moment, if it is of that key
abbrev pub value_used_at : List ℕ → ℕ → HeldValue → HeldValue
value_used_at key now h = if same key h.value.key then record h { last_use = now } else h

-- a value that a prefix covers
abbrev pub value_covered_by : List ℕ → HeldValue → HeldValue
value_covered_by prefix h =
    record h { covered = h.covered || starts_with nat_eq h.value.key prefix }

-- a value of a part whose weight is a point or not, if earlier points no longer count or still do
abbrev pub marked_in : ℕ → Bool → Bool → HeldValue → HeldValue
marked_in part over anew h =
    if h.value.part == part then record h { evictable = over || (not anew && h.evictable) } else h

-- what holds for the representation
pub record RepresentsHeld (next : ℕ) (marks weights : List ℕ) (total : ℕ) (slots : List HeldSlot) :
    Type 0 where
  pub sound : are_sound next slots ≡ true
  pub marked : are_past_marks next marks ≡ true
  pub marks_of_all : length marks ≡ 256
  pub weights_of_all : length weights ≡ 256
  pub weighed : (part : ℕ) → get_or weights part 0 ≡ weight_of_part part (values_in slots)
  pub sum : total ≡ sum_by (λ v. v.weight) (values_in slots)
