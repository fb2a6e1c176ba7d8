-- The queues of a cache as their callers see them: a list of nodes and a cursor for each region.
use Rattle.std.specs.Prelude.{◌≡◌, ℕ, ◌+◌, ◌-◌, ◌^◌, ◌<◌, ◌≤◌, ⊤, List, [], Option, Some, None, IsSome}
use Rattle.policy_base.specs.declared.name.CacheRegion.{CacheRegion}
use Rattle.policy_base.specs.declared.name.CacheRegion.TheVariants.{Window, MainProbation, MainProtected, Other}
use Rattle.policy_base.specs.declared.name.NodeId.{NodeId}
use Rattle.policy_base.specs.declared.records.KeyHashDate.{KeyHashDate}
use Rattle.policy_queue.specs.declared.places.Cursor.TheVariants.{Unstarted}
use Rattle.policy_queue.specs.declared.places.Node.{Node}
use Rattle.policy_queue.specs.Queue.{Queue, find, Leaves, MovesToBack, Stays}

-- a queue of entries
abbrev pub Entries : Type 0
Entries = Queue KeyHashDate

-- the access-order queues of the window and of the main space, and the write-order queue
pub record Queues : Type 0 where
  pub window : Queue KeyHashDate
  pub probation : Queue KeyHashDate
  pub protected : Queue KeyHashDate
  pub write_order : Queue KeyHashDate

-- the queue of a region; that of `Other` is the write-order queue
abbrev pub queue_of : CacheRegion → Queues → Entries
queue_of Window queues = queues.window
queue_of MainProbation queues = queues.probation
queue_of MainProtected queues = queues.protected
queue_of Other queues = queues.write_order

-- the queues, with another one in the place of that of a region
abbrev pub with_queue : CacheRegion → Queues → Entries → Queues
with_queue Window queues queue = record queues { window = queue }
with_queue MainProbation queues queue = record queues { probation = queue }
with_queue MainProtected queues queue = record queues { protected = queue }
with_queue Other queues queue = record queues { write_order = queue }

-- the nodes of a region's access-order queue; `Other` has none
abbrev pub access_nodes : CacheRegion → Queues → List (Node KeyHashDate)
access_nodes Window queues = queues.window.nodes
access_nodes MainProbation queues = queues.probation.nodes
access_nodes MainProtected queues = queues.protected.nodes
access_nodes Other queues = []

-- an empty queue of a region
pub record IsNewQueue (region : CacheRegion) (queue : Entries) : Type 0 where
  pub nodes : queue.nodes ≡ []
  pub region_is : queue.region ≡ region
  pub cursor : queue.cursor ≡ Unstarted
  pub next_serial : queue.next_serial ≡ 0

-- one queue is changed like this, and the others are as they were
pub record Changes (region : CacheRegion) (P : Entries → Entries → Type 0) (old new : Queues) :
    Type 0 where
  pub others : new ≡ with_queue region old (queue_of region new)
  pub changed : P (queue_of region old) (queue_of region new)

-- a node, if there is one, is in this queue
abbrev pub HasNode : Option NodeId → Entries → Type 0
HasNode None queue = ⊤
HasNode (Some id) queue = IsSome (find id queue.nodes)

-- a node, if there is one, was moved to the back of this queue
abbrev pub MovesNode : Option NodeId → Entries → Entries → Type 0
MovesNode None old new = new ≡ old
MovesNode (Some id) old new = MovesToBack old new id

-- a node, if there is one, was removed from this queue
abbrev pub LosesNode : Option NodeId → Entries → Entries → Type 0
LosesNode None old new = new ≡ old
LosesNode (Some id) old new = Leaves old new id

-- a node, if there is one, is in the access-order queue of its region
abbrev pub HasAccessNode : Option NodeId → Queues → Type 0
HasAccessNode None queues = ⊤
HasAccessNode (Some id) queues = IsSome (find id (access_nodes id.queue queues))

-- a node, if there is one, was moved to the back of its queue
abbrev pub MovesAccessNode : Option NodeId → Queues → Queues → Type 0
MovesAccessNode None old new = new ≡ old
MovesAccessNode (Some id) old new = Changes id.queue (λ o n. MovesToBack o n id) old new

-- a node, if there is one, was removed from its queue
abbrev pub LosesAccessNode : Option NodeId → Queues → Queues → Type 0
LosesAccessNode None old new = new ≡ old
LosesAccessNode (Some id) old new = Changes id.queue (λ o n. Leaves o n id) old new

-- nothing changed, except that more pushes may need no allocation
pub record AllStay (old new : Queues) : Type 0 where
  pub window : Stays old.window new.window
  pub probation : Stays old.probation new.probation
  pub protected : Stays old.protected new.protected
  pub write_order : Stays old.write_order new.write_order

-- this many pushes on each queue need no allocation
pub record HaveRoomFor (n : ℕ) (queues : Queues) : Type 0 where
  pub window : n ≤ queues.window.room
  pub probation : n ≤ queues.probation.room
  pub protected : n ≤ queues.protected.room
  pub write_order : n ≤ queues.write_order.room

-- one of the queues does not have this many serials left
abbrev pub LackSerials : ℕ → Queues → Type 0
LackSerials n queues =
    (region : CacheRegion) × (2 ^ 64 - 1 < (queue_of region queues).next_serial + n)
