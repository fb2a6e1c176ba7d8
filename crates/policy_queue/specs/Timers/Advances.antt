-- A whole advance.
use Rattle.std.specs.Prelude.{◌≡◌, ℕ, ◌<◌, ◌≤◌, List, [], ◌∷◌, ◌++◌, Option, Some, None}
use Rattle.std.specs.List.{All}
use Rattle.std.specs.List.Sorted.{IsPermutation}
use Rattle.slab.specs.Slab.{Slab}
use Rattle.policy_base.specs.declared.records.Slot.{Slot}
use Rattle.policy_queue.specs.declared.timers.array.Timer.{Timer}
use Rattle.policy_queue.specs.declared.timers.array.TimerNode.{TimerNode}
use Rattle.policy_queue.specs.declared.timers.array.Due.{Due}
use Rattle.policy_queue.specs.declared.timers.events.TimerEvent.{TimerEvent}
use Rattle.policy_queue.specs.declared.timers.events.TimerEvent.TheVariants.{Expired, Rescheduled, Descheduled}
use Rattle.policy_queue.specs.Timers.Entries.{due_of}
use Rattle.policy_queue.specs.Timers.Events.{AdvanceStep}

-- the entry's time has come
pub record IsDue {K : Type 0} (entries : Slab (Slot K)) (now entry : ℕ) : Type 0 where
  pub due : Due
  pub is_due : due_of entries entry ≡ Some due
  pub reached : due.time ≤ now

-- each timer was placed under its entry's present time, if that has one
abbrev pub ArePlaced : {K : Type 0} → Slab (Slot K) → List Timer → Type 0
ArePlaced entries ts =
    All (λ t. (due : Due) → due_of entries t.node.entry_info ≡ Some due → due.time ≡ t.placed) ts

abbrev pub given_at : Option Due → TimerNode → List TimerNode → List TimerNode
given_at None node rest = rest
given_at (Some due) node rest = node ∷ rest

-- the records of the timers whose entries have a time
abbrev pub given_of : {K : Type 0} → Slab (Slot K) → List Timer → List TimerNode
given_of entries [] = []
given_of entries (t ∷ rest) =
    given_at (due_of entries t.node.entry_info) t.node (given_of entries rest)

-- what an advance that runs to its end returns: each timer that it returns is due; and if all were placed under their entries' times, the
-- timers that left are those that it returns, each once, and some without a time, and all others stay
pub record Drains {K : Type 0} (entries : Slab (Slot K)) (now : ℕ) (before after : List Timer)
    (nodes : List TimerNode) : Type 0 where
  pub due : All (λ node. IsDue entries now node.entry_info) nodes
  pub later : All (λ t. now < t.placed) after
  pub left : List Timer
  pub given : given_of entries left ≡ nodes
  pub parts : ArePlaced entries before → IsPermutation before (left ++ after)

-- the records of the timers that these events return
abbrev pub nodes_of : List TimerEvent → List TimerNode
nodes_of [] = []
nodes_of (Expired node ∷ rest) = node ∷ nodes_of rest
nodes_of (Rescheduled u ∷ rest) = nodes_of rest
nodes_of (Descheduled ∷ rest) = nodes_of rest

-- an advance in a later tick that returns these events and then ends
abbrev pub Advances : {K : Type 0} → List TimerEvent → Slab (Slot K) → ℕ → List Timer → List Timer
    → Type 0
Advances {K} [] entries now before after =
    (new : Slab (Slot K)) × AdvanceStep entries new now before after None
Advances {K} (event ∷ rest) entries now before after =
    (new : Slab (Slot K)) × (next : List Timer) × AdvanceStep entries new now before next (Some event)
    × Advances rest new now next after

-- an event
abbrev pub TheEvent : Type 0
TheEvent = TimerEvent
