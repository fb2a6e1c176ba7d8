-- Connections whose `LOAD` waits, and the loads under way.
use Rattle.std.specs.Prelude.{ℕ, Bool, true, false, List, map, Option, Ok}
use Rattle.audit_model.specs.Grammar.{Reading}
use Rattle.audit_model.specs.Situation.{Situation, Connection, PendingLoad, Held, Waiting, without_waiting}
use Rattle.cache_commands.specs.Loads.Pending.{number_to_send, loads_pending, sent_of, when_joined, when_sent}
use Rattle.audit_model.specs.declared.command.Command.TheVariants as says
use Rattle.cache_commands.specs.declared.loads.loads.Loads.{Loads}

-- a connection whose `LOAD` waits, with these bytes unread after it, and how often it began to wait
abbrev pub waiting_with : ℕ → List ℕ → List ℕ → ℕ → Connection
waiting_with number line bytes times =
    record { number = number; unread = bytes; standing = Waiting line; waited = times }

-- a connection that holds a `LOAD` back that had begun to wait this often
abbrev pub holding_load : ℕ → List ℕ → List ℕ → ℕ → Connection
holding_load number line bytes times =
    record { number = number; unread = bytes; standing = Held line; waited = times }

-- the situation, with this many loads sent and these under way
abbrev pub with_loads : ℕ → List PendingLoad → Situation → Situation
with_loads sent pending s = record s { sent = sent; pending = pending }

-- how many loads were sent, and those under way
pub record UnderWay : Type 0 where
  pub sent : ℕ
  pub pending : List PendingLoad

-- in terms of a table
abbrev pub under_way : Loads → UnderWay
under_way loads = record { sent = sent_of loads; pending = loads_pending loads }

-- after a connection stayed open, or closed and no longer waits
abbrev pub when_left : Bool → ℕ → UnderWay → UnderWay
when_left true number loads = loads
when_left false number loads =
    record { sent = loads.sent; pending = map (without_waiting number) loads.pending }

-- those of a situation
abbrev pub loads_in : Situation → UnderWay
loads_in s = record { sent = s.sent; pending = s.pending }

-- the situation, with these loads under way
abbrev pub with_under_way : UnderWay → Situation → Situation
with_under_way loads s = with_loads loads.sent loads.pending s

-- the line is a `LOAD`
abbrev pub is_load : Reading → Bool
is_load (Ok (says.Load key)) = true
is_load reading = false

-- the number of the load that a connection sends that begins to wait for this key: none if the key's load is under way
abbrev pub load_sent_for : List ℕ → UnderWay → Option ℕ
load_sent_for key loads = number_to_send key loads.sent loads.pending

-- the loads after the connection waits for the key's load, which it sends if none is under way
abbrev pub when_waiting : ℕ → List ℕ → UnderWay → UnderWay
when_waiting conn key loads =
    record {
      sent = when_sent (load_sent_for key loads) loads.sent;
      pending = when_joined conn key (load_sent_for key loads) loads.pending;
    }
