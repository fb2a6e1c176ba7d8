-- A queue as its callers see it: a list of nodes from front to back, and a cursor.
use Rattle.std.specs.Prelude.{◌≡◌, ℕ, ◌+◌, ◌-◌, ◌≢◌, ◌<◌, ◌≤◌, ◌^◌, zero, suc, length, map, Bool, true, false, List, [], ◌∷◌, ◌++◌, Option, Some, None, if◌then◌else◌}
use Rattle.std.specs.List.{All}
use Rattle.std.specs.Option.{option_to_list}
use Rattle.policy_base.specs.declared.name.CacheRegion.{CacheRegion}
use Rattle.policy_base.specs.declared.name.NodeId.{NodeId}
use Rattle.policy_base.specs.Region.{same_id}
use Rattle.policy_queue.specs.declared.places.Node.{Node}
use Rattle.policy_queue.specs.declared.deque.PushError.{PushError}
use Rattle.policy_queue.specs.declared.deque.PushError.TheVariants.{OutOfMemory, UsedUp}
use Rattle.policy_queue.specs.declared.places.Cursor.{Cursor}
use Rattle.policy_queue.specs.declared.places.Cursor.TheVariants.{Unstarted, At, Done}

-- the nodes, the cursor, the serial that the next push gives, and how many pushes need no allocation
pub record Queue (T : Type 0) : Type 0 where
  pub region : CacheRegion
  pub nodes : List (Node T)
  pub cursor : Cursor
  pub next_serial : ℕ
  pub room : ℕ

-- the node of this name
abbrev pub find : {T : Type 0} → NodeId → List (Node T) → Option (Node T)
find id [] = None
find id (n ∷ rest) = if same_id n.id id then Some n else find id rest

-- the list without the node of this name
abbrev pub without_node : {T : Type 0} → NodeId → List (Node T) → List (Node T)
without_node id [] = []
without_node id (n ∷ rest) = if same_id n.id id then rest else n ∷ without_node id rest

-- the nodes from the one of this name on
abbrev pub from_id : {T : Type 0} → NodeId → List (Node T) → List (Node T)
from_id id [] = []
from_id id (n ∷ rest) = if same_id n.id id then n ∷ rest else from_id id rest

-- every node but the first
abbrev pub tail : {X : Type 0} → List X → List X
tail [] = []
tail (x ∷ rest) = rest

-- the first node
abbrev pub head : {X : Type 0} → List X → Option X
head [] = None
head (x ∷ rest) = Some x

-- a cursor at the first of these nodes
abbrev pub cursor_at : {T : Type 0} → List (Node T) → Cursor
cursor_at [] = Done
cursor_at (n ∷ rest) = At n.id

-- what the cursor still has to return
abbrev pub to_give : {T : Type 0} → Cursor → List (Node T) → List (Node T)
to_give Unstarted nodes = nodes
to_give (At id) nodes = from_id id nodes
to_give Done nodes = []

-- the cursor after it returned the first of these nodes
abbrev pub cursor_past : {T : Type 0} → List (Node T) → Cursor
cursor_past [] = Unstarted
cursor_past (n ∷ rest) = cursor_at rest

-- the cursor after this node leaves its place, with these nodes after it
abbrev pub cursor_moved : {T : Type 0} → Cursor → NodeId → List (Node T) → Cursor
cursor_moved Unstarted id behind = Unstarted
cursor_moved (At at) id behind = if same_id at id then cursor_at behind else At at
cursor_moved Done id behind = Done

-- the cursor after this node leaves its place
abbrev pub cursor_without : {T : Type 0} → Cursor → NodeId → List (Node T) → Cursor
cursor_without cursor id nodes = cursor_moved cursor id (tail (from_id id nodes))

-- the node of this name was removed: the cursor moves on if it was there, and no push lost its room
pub record Leaves {T : Type 0} (old new : Queue T) (id : NodeId) : Type 0 where
  pub nodes : new.nodes ≡ without_node id old.nodes
  pub cursor : new.cursor ≡ cursor_without old.cursor id old.nodes
  pub region : new.region ≡ old.region
  pub next_serial : new.next_serial ≡ old.next_serial
  pub room : old.room ≤ new.room

-- this element was appended, under a new name
pub record Pushes {T : Type 0} (old new : Queue T) (id : NodeId) (element : T) : Type 0 where
  pub nodes : new.nodes ≡ old.nodes ++ (record { id = id; element = element }) ∷ []
  pub queue : id.queue ≡ old.region
  pub serial : id.serial ≡ old.next_serial
  pub fresh : find id old.nodes ≡ None
  pub cursor : new.cursor ≡ old.cursor
  pub region : new.region ≡ old.region
  pub next_serial : new.next_serial ≡ old.next_serial + 1
  pub room : old.room ≤ new.room + 1

-- nothing changed, except that more pushes may need no allocation
pub record Stays {T : Type 0} (old new : Queue T) : Type 0 where
  pub same : new ≡ record old { room = new.room }
  pub room : old.room ≤ new.room

-- the element that a refused push returns
abbrev pub refused_element : {T : Type 0} → PushError T → T
refused_element (OutOfMemory x) = x
refused_element (UsedUp x) = x

-- a push was refused for lack of serials exactly if there was none, and for lack of memory only if there was no room
abbrev pub RefusedWell : {T : Type 0} → Queue T → PushError T → Type 0
RefusedWell q (OutOfMemory x) = (q.room ≡ 0) × (q.next_serial ≢ 2 ^ 64 - 1)
RefusedWell q (UsedUp x) = q.next_serial ≡ 2 ^ 64 - 1

-- the list has something
abbrev pub is_nonempty : {X : Type 0} → List X → Bool
is_nonempty [] = false
is_nonempty (x ∷ rest) = true

-- the list with the node of this name after all others
abbrev pub with_node_at_back : {T : Type 0} → NodeId → List (Node T) → List (Node T)
with_node_at_back id nodes = without_node id nodes ++ option_to_list (find id nodes)

-- the node of this name was moved to the back: the cursor moves on if it was there, but not from the last node
pub record MovesToBack {T : Type 0} (old new : Queue T) (id : NodeId) : Type 0 where
  pub nodes : new.nodes ≡ with_node_at_back id old.nodes
  pub cursor : new.cursor ≡ (if is_nonempty (tail (from_id id old.nodes))
      then cursor_without old.cursor id old.nodes else old.cursor)
  pub region : new.region ≡ old.region
  pub next_serial : new.next_serial ≡ old.next_serial
  pub room : new.room ≡ old.room

-- the last node
abbrev pub final : {X : Type 0} → List X → Option X
final [] = None
final (x ∷ []) = Some x
final (x ∷ y ∷ rest) = final (y ∷ rest)

-- no node has this serial
abbrev pub LacksSerial : {T : Type 0} → ℕ → List (Node T) → Type 0
LacksSerial serial [] = Unit {0}
LacksSerial serial (n ∷ rest) = (n.id.serial ≢ serial) × LacksSerial serial rest

-- the nodes are of this region, with serials below the next one, each its own
abbrev pub AreNamed : {T : Type 0} → CacheRegion → ℕ → List (Node T) → Type 0
AreNamed region next [] = Unit {0}
AreNamed region next (n ∷ rest) =
    (n.id.queue ≡ region) × (n.id.serial < next) × LacksSerial n.id.serial rest
    × AreNamed region next rest

-- what this many calls of `next` return from a cursor on
abbrev pub given : {T : Type 0} → ℕ → Cursor → List (Node T) → List (Option (Node T))
given zero cursor nodes = []
given (suc k) cursor nodes =
    head (to_give cursor nodes) ∷ given k (cursor_past (to_give cursor nodes)) nodes

-- where the cursor is then
abbrev pub walked : {T : Type 0} → ℕ → Cursor → List (Node T) → Cursor
walked zero cursor nodes = cursor
walked (suc k) cursor nodes = walked k (cursor_past (to_give cursor nodes)) nodes

-- a walk returns each node once, in order, then ends, and is where it started
pub record WalksOnce {T : Type 0} (nodes : List (Node T)) : Type 0 where
  pub gives : given (suc (length nodes)) Unstarted nodes ≡ map (λ n. Some n) nodes ++ None ∷ []
  pub starts_again : walked (suc (length nodes)) Unstarted nodes ≡ Unstarted

-- a removed name is stale, and stays so: no push gives it again
pub record StaysStale {T : Type 0} (id : NodeId) (next : ℕ) (nodes : List (Node T)) : Type 0 where
  pub left : find id (without_node id nodes) ≡ None
  pub pushed : (new : Node T) → id.serial < next → find id nodes ≡ None → new.id.serial ≡ next
      → find id (nodes ++ new ∷ []) ≡ None

-- no element of these nodes passes a test
pub record NonePasses {T : Type 0} (Test : T → Bool → Type 0) (nodes : List (Node T)) : Type 0 where
  pub fails : All (λ n. Test n.element false) nodes

-- this element passes a test, and none before it does
pub record IsFirstThat {T : Type 0} (Test : T → Bool → Type 0) (nodes : List (Node T)) (element : T)
    : Type 0 where
  pub before : List (Node T)
  pub first : Node T
  pub behind : List (Node T)
  pub is : nodes ≡ before ++ first ∷ behind
  pub same : first.element ≡ element
  pub passes : Test element true
  pub passed_over : NonePasses Test before

-- a node's name
abbrev pub TheName : Type 0
TheName = NodeId
