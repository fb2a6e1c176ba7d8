-- A namespace as its callers see it.
use Rattle.std.specs.Prelude.{◌≡◌, ℕ, zero, suc, ◌-◌, ◌<◌, ◌≤◌, ◌^◌, Bool, true, nat_lt, nat_le, ◌&&◌, List, [], length, map, Option, None, is_none, is_some, unwrap_or, IsTrue}
use Rattle.std.specs.List.{slice_get}
use Rattle.audit_laws.specs.Waiting.Tidy.{Tidy}
use Rattle.audit_model.specs.Belongs.{Known}
use Rattle.audit_model.specs.Follows.{known_in}
use Rattle.audit_model.specs.Situation.{HeldValue, PendingLoad, Situation}
use Rattle.audit_model.specs.declared.command.Closing.{Closing}
use Rattle.audit_model.specs.declared.input.LoadId.{LoadId}
use Rattle.cache_commands.specs.Loads.Keys.{were_sent}
use Rattle.cache_commands.specs.Loads.Pending.{loads_pending, namespace_of_loads, outgoing_loads, sent_of}
use Rattle.cache_lines.specs.Tape.Taped.{IsAtRest, Taped}
use Rattle.cache_lines.specs.declared.base.Base.{Base}
use Rattle.cache_commands.specs.Values.{Values}
use Rattle.audit_model.specs.Situation as model
use Rattle.cache_lines.specs.Leads.Waiters.{WaitForLoads}
use Rattle.cache_core.specs.Connections.Presence.{Presence, closing_of_presence, open_from, reply_text_of}

-- A namespace: its store, and the tape of its records; the latest moment; the open connections; for each connection that was opened why it
-- closed, if it did, and its replies that were not taken; how many loads were sent, and those under way; those that went out and were not
-- taken; and its own number.
pub record NamespaceState (S T : Type 0) : Type 0 where
  pub store : S
  pub tape : T
  pub latest : ℕ
  pub connections : List model.Connection
  pub closings : List (Option Closing)
  pub outputs : List (List ℕ)
  pub sent : ℕ
  pub pending : List PendingLoad
  pub outgoing : List (LoadId × List ℕ)
  pub namespace : ℕ

-- the element of a list with this number, counted from 1
abbrev pub at_number : {A : Type 0} → A → List A → ℕ → A
at_number other xs zero = other
at_number other xs (suc place) = unwrap_or (slice_get xs place) other

module _ {S T : Type 0} where
  -- why the connection with this number has closed, if it has
  abbrev pub closing_in : NamespaceState S T → ℕ → Option Closing
  closing_in n number = at_number None n.closings number

  -- its replies that were not taken
  abbrev pub output_in : NamespaceState S T → ℕ → List ℕ
  output_in n number = at_number [] n.outputs number

  -- the connection was opened
  abbrev pub was_opened_in : NamespaceState S T → ℕ → Bool
  was_opened_in n number = nat_lt 0 number && nat_le number (length n.closings)

  -- how many of its loads were taken
  abbrev pub loads_taken_of : NamespaceState S T → ℕ
  loads_taken_of n = n.sent - length n.outgoing

  -- the situation, if these values are held
  abbrev pub situation_with : (S → Values) → NamespaceState S T → List HeldValue → Situation
  situation_with view n held =
      record {
        latest = n.latest;
        opened = length n.closings;
        sent = n.sent;
        connections = n.connections;
        pending = n.pending;
        held = held;
        dropped = (view n.store).frame.dropped;
      }

  -- it stands for this situation
  pub record StateStandsFor (view : S → Values) (n : NamespaceState S T) (s : Situation) : Type 0 where
    pub held : List HeldValue
    pub stands : (view n.store).Stands held
    pub is : s ≡ situation_with view n held

  -- what a refusal depends on
  abbrev pub known_of_state : (S → Values) → NamespaceState S T → Known
  known_of_state view n = known_in (situation_with view n [])

  -- ---- its parts

  -- a namespace without connections
  abbrev pub new_state : S → T → ℕ → ℕ → NamespaceState S T
  new_state store tape latest namespace =
      record {
        store = store;
        tape = tape;
        latest = latest;
        connections = [];
        closings = [];
        outputs = [];
        sent = 0;
        pending = [];
        outgoing = [];
        namespace = namespace;
      }

  -- a namespace of these parts
  abbrev pub state_of : Base S T → ℕ → List Presence → NamespaceState S T
  state_of base latest connections = record {
    store = base.store;
    tape = base.tape;
    latest = latest;
    connections = open_from 1 connections;
    closings = map closing_of_presence connections;
    outputs = map reply_text_of connections;
    sent = sent_of base.loads;
    pending = loads_pending base.loads;
    outgoing = outgoing_loads base.loads;
    namespace = namespace_of_loads base.loads;
  }

  -- No moment of the store is after the latest one, which is below 2^63; no record is under way; and if records are kept, only they contain
  -- replies and notes.
  pub record IsBetweenEvents (view : S → Values) (tape : T → Option Taped) (n : NamespaceState S T) : Type 0 where
    pub in_time : (view n.store).frame.latest ≤ n.latest
    pub moment : n.latest < 2 ^ 63
    pub rests : IsAtRest (tape n.tape)
    pub untaken : is_some (tape n.tape) ≡ true → (view n.store).untaken ≡ []
    pub outputs : is_some (tape n.tape) ≡ true → (number : ℕ) → output_in n number ≡ []
    -- those that wait for a load do wait, each once; and what waits are `LOAD`s
    pub tidy : Tidy [] (situation_with view n [])
    pub reads : WaitForLoads (view n.store).frame.config (situation_with view n [])

-- how its parts agree: a connection that was opened has replies, and is listed exactly while it has not closed; loads under way were sent,
-- and no more went out than were sent
pub record SuitsItself {S T : Type 0} (view : S → Values) (n : NamespaceState S T) : Type 0 where
  pub listed : (number : ℕ) → was_opened_in n number ≡ true → is_some
      (model.connection_in number (situation_with view n [])) ≡ is_none (closing_in n number)
  pub counted : length n.outputs ≡ length n.closings
  pub sent : IsTrue (were_sent n.sent n.pending)
  pub fewer : length n.outgoing ≤ n.sent
