-- What an advance does.
use Rattle.std.specs.Prelude.{◌≡◌, ℕ, ◌<◌, ◌≤◌, List, ◌∷◌, ◌++◌, Option, Some, None, nat_le}
use Rattle.std.specs.List.{All, count_by}
use Rattle.std.specs.List.Sorted.{IsPermutation}
use Rattle.slab.specs.Slab.{Slab}
use Rattle.policy_base.specs.declared.records.Slot.{Slot}
use Rattle.policy_queue.specs.declared.timers.array.Timer.{Timer}
use Rattle.policy_queue.specs.declared.timers.array.TimerNode.{TimerNode}
use Rattle.policy_queue.specs.declared.timers.array.Due.{Due}
use Rattle.policy_queue.specs.declared.timers.events.TimerEvent.{TimerEvent}
use Rattle.policy_queue.specs.declared.timers.events.TimerEvent.TheVariants.{Expired, Rescheduled, Descheduled}
use Rattle.policy_queue.specs.Timers.Entries.{due_of, forgotten, all_forgotten}
use Rattle.policy_queue.specs.Timers.Timers.{moved}

-- how many timers were placed at or before now
abbrev pub pending : ℕ → List Timer → ℕ
pending now ts = count_by (λ t. nat_le t.placed now) ts

-- the timers whose entries have no time
abbrev pub HaveNoTime : {K : Type 0} → Slab (Slot K) → List Timer → Type 0
HaveNoTime entries ts = All (λ t. due_of entries t.node.entry_info ≡ None) ts

-- a timer leaves, because its entry's time has come
pub record Expires {K : Type 0} (entries : Slab (Slot K)) (now : ℕ) (before after : List Timer)
    (node : TimerNode) : Type 0 where
  pub timer : Timer
  pub recorded : timer.node ≡ node
  pub timers : IsPermutation before (timer ∷ after)
  pub due : Due
  pub is_due : due_of entries node.entry_info ≡ Some due
  pub reached : due.time ≤ now
  pub placed : timer.placed ≤ now

-- a timer stays, because its entry's time is yet to come, and has that time from now on
pub record Postpones {K : Type 0} (entries : Slab (Slot K)) (now : ℕ) (before after : List Timer) :
    Type 0 where
  pub timer : Timer
  pub others : List Timer
  pub timers : IsPermutation before (timer ∷ others)
  pub due : Due
  pub is_due : due_of entries timer.node.entry_info ≡ Some due
  pub later : now < due.time
  pub placed : timer.placed ≤ now
  pub moves : IsPermutation (moved timer due.time due.expiry_gen ∷ others) after

-- what an event says of the timers before and after it; at the end no timer is left at or before now
abbrev pub EventIs : {K : Type 0} → Slab (Slot K) → ℕ → List Timer → List Timer → Option TimerEvent
    → Type 0
EventIs entries now before after None = IsPermutation before after × All (λ t. now < t.placed) after
EventIs entries now before after (Some (Expired node)) = Expires entries now before after node
EventIs entries now before after (Some (Rescheduled u)) = Postpones entries now before after
EventIs entries now before after (Some Descheduled) = ⊥

-- the entries after an event: the entry of a timer that expired has no timer, and everything else is as it was
abbrev pub entries_after : {K : Type 0} → Option TimerEvent → Slab (Slot K) → Slab (Slot K)
entries_after None entries = entries
entries_after (Some (Expired node)) entries = forgotten node.entry_info entries
entries_after (Some (Rescheduled u)) entries = entries
entries_after (Some Descheduled) entries = entries

-- one step of an advance: timers without a time leave unannounced, and then comes the event, or the end
pub record AdvanceStep {K : Type 0} (old new : Slab (Slot K)) (now : ℕ) (before after : List Timer)
    (event : Option TimerEvent) : Type 0 where
  pub gone : List Timer
  pub left : List Timer
  pub parts : IsPermutation before (gone ++ left)
  pub had_none : HaveNoTime old gone
  pub is : EventIs old now left after event
  pub entries : new ≡ entries_after event (all_forgotten gone old)

-- every entry keeps its time
abbrev pub SameTimes : {K : Type 0} → Slab (Slot K) → Slab (Slot K) → Type 0
SameTimes old new = (entry : ℕ) → due_of new entry ≡ due_of old entry
