-- What a table has.
use Rattle.std.specs.Prelude.{ℕ, Bool, ◌==◌, nat_lt, List, map, Option, if◌then◌else◌}
use Rattle.std.specs.List.{find}
use Rattle.std.specs.declared.vec.Vec.{Vec}
use Rattle.std.specs.declared.alloc.Global.{Global}
use Rattle.audit_model.specs.Bytewise.{same}
use Rattle.audit_model.specs.History.{Value}
use Rattle.audit_model.specs.Values.{without_key}
use Rattle.audit_situation.specs.Listings.{are_apart, ranked}
use Rattle.audit_situation.specs.declared.held.kept.StoredValue.{StoredValue}

-- a value with its last use, and the number that distinguishes it from values accepted later
pub record HeldSlot : Type 0 where
  pub value : Value
  pub last_use : ℕ
  pub stamp : ℕ

-- a key with what is kept for it
abbrev pub slot_of : List ℕ → StoredValue → HeldSlot
slot_of key kept =
    record {
      value = record { key = key; bytes = kept.bytes; part = kept.part; weight = kept.weight; accepted_at = kept.accepted_at; own_deadline = kept.own_deadline };
      last_use = kept.last_use;
      stamp = kept.stamp;
    }

abbrev pub Entry : Type 0
Entry = Vec ℕ Global × StoredValue

-- the entries as slots
abbrev pub slots_of : List Entry → List HeldSlot
slots_of es = map (λ e. slot_of e.0.items e.1) es

-- the slots in the order in which their values were accepted
abbrev pub oldest_first : List HeldSlot → List HeldSlot
oldest_first slots = ranked nat_lt (λ s. s.stamp) slots

-- the key's slot
abbrev pub slot_of_key : List ℕ → List HeldSlot → Option HeldSlot
slot_of_key key slots = find (λ s. same key s.value.key) slots

-- the slots except the key's
abbrev pub slots_without : List ℕ → List HeldSlot → List HeldSlot
slots_without key slots = without_key (λ s. s.value.key) key slots

-- the key's slot is used at that moment
abbrev pub slot_used_at : List ℕ → ℕ → HeldSlot → HeldSlot
slot_used_at key now s = if same key s.value.key then record s { last_use = now } else s

-- no key occurs twice
abbrev pub have_keys_apart : List Entry → Bool
have_keys_apart es = are_apart (λ d e. same d.0.items e.0.items) es

-- no number occurs twice
abbrev pub have_stamps_apart : List Entry → Bool
have_stamps_apart es = are_apart (λ d e. d.1.stamp == e.1.stamp) es
