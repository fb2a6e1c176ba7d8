-- What later steps depend on, and what a step sees of it.
use Rattle.std.specs.Prelude.{ℕ, suc, Bool, true, false, not, ◌&&◌, ◌||◌, ◌==◌, nat_lt, List, [], ◌++◌, ◌∷◌, length, map, Option, if◌then◌else◌, is_some}
use Rattle.std.specs.List.{find, filter}
use Rattle.std.specs.Option.{option_map, option_map_or}
use Rattle.audit_model.specs.Bytewise.{same, cut_at}
use Rattle.audit_model.specs.History.{Value}
use Rattle.audit_model.specs.Stream.{first_line}
use Rattle.audit_model.specs.Values.{deadline, deadline_has_come, sorted}
use Rattle.audit_model.specs.View.{View, Candidate}
use Rattle.audit_model.specs.declared.config.Config.{Config}

-- a connection runs lines, holds a line back, or its `LOAD` waits
pub data Standing : Type 0 where
  Ready : Standing
  Held : (line : List ℕ) → Standing
  Waiting : (line : List ℕ) → Standing

-- an open connection: its unread bytes, and how often its `LOAD` without a reply began to wait
pub record Connection : Type 0 where
  pub number : ℕ
  pub unread : List ℕ
  pub standing : Standing
  pub waited : ℕ

-- a load under way, with the connections that wait for it in the order in which they joined
pub record PendingLoad : Type 0 where
  pub number : ℕ
  pub key : List ℕ
  pub waiting : List ℕ

-- a held value, with its last use; evictable if its part exceeded its share at a point that still counts for it
pub record HeldValue : Type 0 where
  pub value : Value
  pub last_use : ℕ
  pub covered : Bool
  pub evictable : Bool

-- the latest moment; how many connections were opened and loads sent; the open connections; the loads under way; the values held, oldest
-- first; and whether a `DROPIF` was accepted
pub record Situation : Type 0 where
  pub latest : ℕ
  pub opened : ℕ
  pub sent : ℕ
  pub connections : List Connection
  pub pending : List PendingLoad
  pub held : List HeldValue
  pub dropped : Bool

-- before the first record
abbrev pub empty_situation : ℕ → Situation
empty_situation made =
    record {
      latest = made;
      opened = 0;
      sent = 0;
      connections = [];
      pending = [];
      held = [];
      dropped = false;
    }

-- ---- connections

-- it runs lines
abbrev pub is_ready : Standing → Bool
is_ready Ready = true
is_ready standing = false

-- it holds a line back
abbrev pub is_holding : Standing → Bool
is_holding (Held line) = true
is_holding standing = false

-- its `LOAD` waits
abbrev pub is_waiting_now : Standing → Bool
is_waiting_now (Waiting line) = true
is_waiting_now standing = false

-- the open connection of that number
abbrev pub connection_in : ℕ → Situation → Option Connection
connection_in conn s = find (λ c. c.number == conn) s.connections

-- its next line may run
abbrev pub may_run_in : Situation → ℕ → Bool
may_run_in s conn =
    option_map_or (λ c. is_ready c.standing && is_some (first_line c.unread)) (connection_in conn s)
    false

-- that connection holds a line back
abbrev pub is_holding_in : Situation → ℕ → Bool
is_holding_in s conn = option_map_or (λ c. is_holding c.standing) (connection_in conn s) false

-- it closes because a line is too long, or because too many bytes come after its waiting `LOAD`
abbrev pub is_overlong : Connection → Bool
is_overlong c =
    (is_ready c.standing && nat_lt 8192 (length (cut_at 10 c.unread).0))
    || (is_waiting_now c.standing && nat_lt 8192 (length c.unread))

-- a load without this connection among those that wait for it
abbrev pub without_waiting : ℕ → PendingLoad → PendingLoad
without_waiting conn load = record load { waiting = filter (λ n. not (n == conn)) load.waiting }

-- the connections without this one
abbrev pub without_number : ℕ → List Connection → List Connection
without_number conn connections = filter (λ c. not (c.number == conn)) connections

-- the situation after this connection has closed; its load stays under way
abbrev pub without_connection : ℕ → Situation → Situation
without_connection conn s =
    record s {
      connections = without_number conn s.connections;
      pending = map (without_waiting conn) s.pending;
    }

-- the situation with this connection as it is now; the connection closes after a `QUIT`, or if it has to
abbrev pub with_connection : Bool → Connection → Situation → Situation
with_connection quits connection s =
    let closes = quits || is_overlong connection in
    record s {
      connections = if closes then without_number connection.number s.connections
          else map (λ c. if c.number == connection.number then connection else c) s.connections;
      pending = if closes then map (without_waiting connection.number) s.pending else s.pending;
    }

-- ---- loads

-- the connection waits for the key's load
abbrev pub with_waiting : ℕ → List ℕ → PendingLoad → PendingLoad
with_waiting conn key load =
    if same load.key key then record load { waiting = load.waiting ++ conn ∷ [] } else load

-- the load under way of a key
abbrev pub load_in : Situation → List ℕ → Option ℕ
load_in s key = option_map (λ load. load.number) (find (λ load. same load.key key) s.pending)

-- the load under way with this number
abbrev pub pending_in : ℕ → Situation → Option PendingLoad
pending_in number s = find (λ load. load.number == number) s.pending

-- the key of the load under way with this number
abbrev pub pending_key : ℕ → Situation → Option (List ℕ)
pending_key number s = option_map (λ load. load.key) (pending_in number s)

-- the connections that wait for this load, in the order in which they joined
abbrev pub waiting_in : ℕ → Situation → List ℕ
waiting_in number s = option_map_or (λ load. load.waiting) (pending_in number s) []

-- ---- what a step sees

-- its deadline has come at this moment
abbrev pub is_dead_at : Config → ℕ → HeldValue → Bool
is_dead_at config now held = deadline_has_come (deadline config held.value held.last_use) now

-- it is not covered, and its deadline has not come
abbrev pub is_live_at : Config → ℕ → HeldValue → Bool
is_live_at config now held = not held.covered && not (is_dead_at config now held)

-- the live value of a key
abbrev pub live_at : Config → ℕ → List HeldValue → List ℕ → Option Value
live_at config now held key =
    option_map (λ h. h.value) (find (λ h. same key h.value.key && is_live_at config now h) held)

-- the live keys in byte order
abbrev pub live_keys_at : Config → ℕ → List HeldValue → List (List ℕ)
live_keys_at config now held = sorted (map (λ h. h.value.key) (filter (is_live_at config now) held))

-- a held value, with what is true of it at this moment
abbrev pub candidate_at : Config → ℕ → HeldValue → Candidate
candidate_at config now held =
    record {
      value = held.value;
      dead = is_dead_at config now held;
      covered = held.covered;
      evictable = held.evictable;
      new = false;
    }

-- what a step sees in this situation
abbrev pub view_in : Config → Situation → View
view_in config s =
    record {
      now = s.latest;
      live = live_at config s.latest s.held;
      live_keys = live_keys_at config s.latest s.held;
      load_of_key = load_in s;
      next_load = suc s.sent;
      dropped = s.dropped;
      held = map (candidate_at config s.latest) s.held;
    }
