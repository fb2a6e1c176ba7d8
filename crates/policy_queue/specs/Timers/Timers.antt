-- A wheel as its callers see it: a moment and an unordered collection of timers.
use Rattle.std.specs.Prelude.{◌≡◌, ◌≢◌, ℕ, ◌+◌, ◌-◌, ◌/◌, ◌^◌, ◌<◌, ◌≤◌, List, ◌∷◌, Option, Some, None, Bool}
use Rattle.std.specs.List.{All}
use Rattle.std.specs.List.Sorted.{IsPermutation}
use Rattle.slab.specs.Slab.{Slab}
use Rattle.policy_base.specs.declared.records.Slot.{Slot}
use Rattle.policy_base.specs.declared.name.NodeId.{NodeId}
use Rattle.policy_queue.specs.declared.timers.array.Timer.{Timer}
use Rattle.policy_queue.specs.declared.timers.array.TimerNode.{TimerNode}
use Rattle.policy_queue.specs.declared.timers.array.Due.{Due}
use Rattle.policy_queue.specs.declared.timers.wheel.ReschedulingResult.{ReschedulingResult}
use Rattle.policy_queue.specs.declared.timers.wheel.ReschedulingResult.TheVariants.{Rescheduled, Removed}
use Rattle.policy_queue.specs.declared.timers.wheel.ScheduleError.{ScheduleError}
use Rattle.policy_queue.specs.declared.timers.wheel.ScheduleError.TheVariants.{OutOfMemory, UsedUp}
use Rattle.policy_queue.specs.Timers.Entries.{due_of}

-- whether it is enabled, the moment of its creation, the moment up to which timers were returned, the timers, the next serial, and how many
-- more timers need no allocation
pub record Timers : Type 0 where
  pub is_enabled : Bool
  pub origin : ℕ
  pub moment : ℕ
  pub timers : List Timer
  pub next_serial : ℕ
  pub room : ℕ

-- a timer
abbrev pub TheTimer : Type 0
TheTimer = Timer

-- the timer at another time
abbrev pub moved : Timer → ℕ → ℕ → Timer
moved t time generation =
    record t { placed = time; node = record t.node { expiry_gen = generation } }

-- the number of a moment's tick, counted from the creation
abbrev pub tick : ℕ → ℕ → ℕ
tick origin moment = (moment - origin) / 2 ^ 30

-- everything but the timers and the room is as it was, and there is no less room
pub record KeepsAllButTimers (old new : Timers) : Type 0 where
  pub is_enabled : new.is_enabled ≡ old.is_enabled
  pub origin : new.origin ≡ old.origin
  pub moment : new.moment ≡ old.moment
  pub next_serial : new.next_serial ≡ old.next_serial
  pub room : old.room ≤ new.room

-- nothing changed, except that there may be more room
pub record OnlyGainsRoom (old new : Timers) : Type 0 where
  pub same : new ≡ record old { room = new.room }
  pub room : old.room ≤ new.room

-- a timer was added, under a new name
pub record Schedules (old new : Timers) (entry : ℕ) (id : NodeId) (due : Due) : Type 0 where
  pub timers : IsPermutation ((record {
    placed = due.time;
    id = id;
    node = record { entry_info = entry; expiry_gen = due.expiry_gen };
  }) ∷ old.timers) new.timers
  pub serial : id.serial ≡ old.next_serial
  pub fresh : All (λ t. t.id ≢ id) old.timers
  pub is_enabled : new.is_enabled ≡ old.is_enabled
  pub origin : new.origin ≡ old.origin
  pub moment : new.moment ≡ old.moment
  pub next_serial : new.next_serial ≡ old.next_serial + 1
  pub room : old.room ≤ new.room + 1

-- what a call of `schedule` did: nothing for an entry without a time
abbrev pub ScheduledWell : {K : Type 0} → Slab (Slot K) → Timers → Timers → ℕ → Option NodeId
    → Type 0
ScheduledWell entries old new entry None = (due_of entries entry ≡ None) × (new ≡ old)
ScheduledWell entries old new entry (Some id) =
    (d : Due) × (due_of entries entry ≡ Some d) × Schedules old new entry id d

-- why a timer was refused: no memory and no room, or no serial
abbrev pub TimerRefusedWell : Timers → ScheduleError → Type 0
TimerRefusedWell w OutOfMemory = (w.room ≡ 0) × (w.next_serial < 2 ^ 64 - 1)
TimerRefusedWell w UsedUp = 2 ^ 64 - 1 ≤ w.next_serial

-- the timer of this name was removed, and nothing else changed
pub record TimerLeaves (old new : List Timer) (id : NodeId) (node : TimerNode) : Type 0 where
  pub timer : Timer
  pub named : timer.id ≡ id
  pub recorded : timer.node ≡ node
  pub timers : IsPermutation old (timer ∷ new)

-- a timer was moved to its entry's time, and keeps its name
pub record Moves {K : Type 0} (entries : Slab (Slot K)) (old new : List Timer) (id : NodeId) :
    Type 0 where
  pub timer : Timer
  pub named : timer.id ≡ id
  pub others : List Timer
  pub before : IsPermutation old (timer ∷ others)
  pub due : Due
  pub is_due : due_of entries timer.node.entry_info ≡ Some due
  pub after : IsPermutation (moved timer due.time due.expiry_gen ∷ others) new

-- a timer was moved to another time, and keeps its name
pub record Replaces (old new : List Timer) (id : NodeId) (due : Due) : Type 0 where
  pub timer : Timer
  pub named : timer.id ≡ id
  pub others : List Timer
  pub before : IsPermutation old (timer ∷ others)
  pub after : IsPermutation (moved timer due.time due.expiry_gen ∷ others) new

-- what a call of `reschedule` did
abbrev pub RescheduledWell : {K : Type 0} → Slab (Slot K) → List Timer → List Timer → NodeId
    → ReschedulingResult → Type 0
RescheduledWell entries old new id Rescheduled = Moves entries old new id
RescheduledWell entries old new id (Removed node) =
    (due_of entries node.entry_info ≡ None) × TimerLeaves old new id node
