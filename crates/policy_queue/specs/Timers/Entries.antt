-- What a wheel reads and writes of its entries.
use Rattle.std.specs.Prelude.{ℕ, List, [], ◌∷◌, Option, Some, None, option_map}
use Rattle.std.specs.Option.{option_and_then}
use Rattle.slab.specs.Slab.{Slab, get, with_value}
use Rattle.policy_base.specs.declared.records.Slot.{Slot}
use Rattle.policy_queue.specs.declared.timers.array.Due.{Due}
use Rattle.policy_queue.specs.declared.timers.array.Timer.{Timer}

-- when it is due, if it is there and has a time
abbrev pub due_at : {K : Type 0} → Option (Slot K) → Option Due
due_at slot =
    option_and_then (λ s. option_map (λ t. record {
      time = t;
      expiry_gen = s.info.expiry_gen;
    }) s.info.expiration_time) slot

-- when an entry is due: its own expiration with its generation, if it is there and has one
abbrev pub due_of : {K : Type 0} → Slab (Slot K) → ℕ → Option Due
due_of entries entry = due_at (get entries entry)

-- the time of an entry
abbrev pub time_of : {K : Type 0} → Slab (Slot K) → ℕ → Option ℕ
time_of entries entry = option_map (λ d. d.time) (due_of entries entry)

-- the entry without its timer
abbrev pub timerless : {K : Type 0} → Slot K → Slot K
timerless s = record s { nodes = record s.nodes { timer = None } }

abbrev pub forgotten_at : {K : Type 0} → Option (Slot K) → ℕ → Slab (Slot K) → Slab (Slot K)
forgotten_at None entry entries = entries
forgotten_at (Some s) entry entries = with_value entries entry (timerless s)

-- the entries, one of them without its timer
abbrev pub forgotten : {K : Type 0} → ℕ → Slab (Slot K) → Slab (Slot K)
forgotten entry entries = forgotten_at (get entries entry) entry entries

-- the entries of these timers without their timers
abbrev pub all_forgotten : {K : Type 0} → List Timer → Slab (Slot K) → Slab (Slot K)
all_forgotten [] entries = entries
all_forgotten (t ∷ rest) entries = all_forgotten rest (forgotten t.node.entry_info entries)
