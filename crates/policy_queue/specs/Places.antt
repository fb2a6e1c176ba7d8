-- The nodes of a queue: a slab has the serial and the element of each, and their slots are in a queue of indices.
use Rattle.std.specs.Prelude.{◌≡◌, ℕ, ◌-◌, ◌≤◌, ◌^◌, min, List, [], ◌∷◌, Option, Some, None, length, if◌then◌else◌}
use Rattle.slab.specs.Slab.{Slab, get, ContainsKey, slab_len}
use Rattle.policy_base.specs.declared.name.CacheRegion.{CacheRegion}
use Rattle.policy_base.specs.declared.name.NodeId.{NodeId}
use Rattle.policy_base.specs.Region.{same_id}
use Rattle.policy_queue.specs.declared.places.Node.{Node}
use Rattle.policy_queue.specs.declared.places.Cursor.{Cursor}
use Rattle.policy_queue.specs.declared.places.Cursor.TheVariants.{Unstarted, At, Done}
use Rattle.policy_queue.specs.Indices.{Indices, from_index}
use Rattle.policy_queue.specs.Queue.{AreNamed, cursor_at, is_nonempty}

-- the nodes by their slots, each with its serial
abbrev pub Nodes : Type 0 → Type 0
Nodes T = Slab (ℕ × T)

-- the node of a slot
abbrev pub node_of : {T : Type 0} → CacheRegion → ℕ → ℕ × T → Node T
node_of region slot value =
    record { id = record { serial = value.0; slot = slot; queue = region }; element = value.1 }

-- these nodes, after the one of a slot
abbrev pub with_node : {T : Type 0} → CacheRegion → ℕ → Option (ℕ × T) → List (Node T)
    → List (Node T)
with_node region slot None nodes = nodes
with_node region slot (Some value) nodes = node_of region slot value ∷ nodes

-- the nodes of these slots
abbrev pub nodes_of : {T : Type 0} → CacheRegion → Nodes T → List ℕ → List (Node T)
nodes_of region nodes [] = []
nodes_of region nodes (slot ∷ rest) =
    with_node region slot (get nodes slot) (nodes_of region nodes rest)

-- each of these slots has a node
abbrev pub AreTaken : {T : Type 0} → Nodes T → List ℕ → Type 0
AreTaken nodes [] = Unit {0}
AreTaken nodes (slot ∷ rest) = ContainsKey nodes slot × AreTaken nodes rest

-- the slots from this one on, or none
abbrev pub slots_from : Option ℕ → List ℕ → List ℕ
slots_from None slots = []
slots_from (Some slot) slots = from_index slot slots

-- where a cursor is after this node leaves its place, with these nodes after it; if there are none, at `last`
abbrev pub cursor_off : {T : Type 0} → Cursor → NodeId → Cursor → List (Node T) → Cursor
cursor_off Unstarted id last behind = Unstarted
cursor_off (At at) id last behind =
    if same_id at id then (if is_nonempty behind then cursor_at behind else last) else At at
cursor_off Done id last behind = Done

-- the slots in the queue are those that have a node; there is a seat for each slot that was ever taken
pub record IsQueue {T : Type 0} (region : CacheRegion) (slots : Indices) (nodes : Nodes T)
    (next : ℕ) : Type 0 where
  pub taken : AreTaken nodes slots.indices
  pub counted : slab_len nodes ≡ length slots.indices
  pub named : AreNamed region next (nodes_of region nodes slots.indices)
  pub seats : length nodes.slots ≤ slots.bound

-- how many pushes need no allocation: places, a seat, a cell of the slab and a serial each
abbrev pub room_of : {T : Type 0} → Indices → Nodes T → ℕ → ℕ
room_of slots nodes next =
    min (nodes.capacity - slab_len nodes)
    (min slots.room (min (slots.bound - slab_len nodes) (2 ^ 64 - 1 - next)))
