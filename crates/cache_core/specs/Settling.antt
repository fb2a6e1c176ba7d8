-- Answers and give-ups, and the connections that wait for the load.
use Rattle.std.specs.Prelude.{◌≡◌, ◌≢◌, ℕ, suc, ◌+◌, ◌-◌, ◌≤◌, ◌==◌, not, Bool, true, false, List, [], ◌∷◌, if◌then◌else◌, is_some, length, Option, Some, None, vec_len, vec_capacity}
use Rattle.std.specs.List.{filter, slice_get}
use Rattle.std.specs.Option.{option_map, option_map_or}
use Rattle.audit_laws.specs.Waiting.Tidy.{times_in}
use Rattle.audit_model.specs.Belongs.{Known}
use Rattle.audit_model.specs.Follows.{known_in}
use Rattle.audit_model.specs.Replies.{outcome_text}
use Rattle.audit_model.specs.Situation.{PendingLoad, Situation}
use Rattle.audit_model.specs.Steps.{Task}
use Rattle.audit_model.specs.declared.command.Closing.{Closing}
use Rattle.audit_model.specs.declared.config.Config.{Config}
use Rattle.audit_model.specs.declared.event.Event.{Event}
use Rattle.audit_model.specs.declared.event.Outcome.{Outcome}
use Rattle.audit_model.specs.declared.transcript.Accepted.{Accepted}
use Rattle.audit_model.specs.declared.transcript.Note.{Note}
use Rattle.audit_model.specs.declared.transcript.Record.{Record}
use Rattle.cache_commands.specs.Answered.{IsStored}
use Rattle.cache_commands.specs.Loads.Pending.{SameTaken, load_numbered, loads_pending}
use Rattle.cache_commands.specs.declared.loads.standing.Standing.{Standing}
use Rattle.cache_lines.specs.Tape.Taped.{IsAtRest, Taped, started}
use Rattle.cache_lines.specs.Waiting.{UnderWay, under_way}
use Rattle.cache_lines.specs.declared.base.Base.{Base}
use Rattle.cache_commands.specs.Values.{GivesNote, IsMoment, Values}
use Rattle.audit_model.specs.declared.event.Event.TheVariants as event
use Rattle.cache_core.specs.Connection.Fed.{AwaitsLoad, FedRan, LooksAsBefore}
use Rattle.cache_core.specs.declared.connection.connection.Connection.{Connection}
use Rattle.cache_core.specs.Connections.Presence.{Gone, Here, Out, Presence}
use Rattle.cache_commands.specs.declared.loads.loads.Loads.{Loads}
use Rattle.cache_commands.specs.declared.loads.standing.Standing.TheVariants as now_is
use Rattle.cache_core.specs.Fed.{ReplacedAt, seen_at}
use Rattle.cache_core.specs.Settled.{Parts}
use Rattle.cache_core.specs.State.{NamespaceState, StateStandsFor}
use Rattle.cache_core.specs.Turned.{IsSameNamespace, Turned}

-- ---- the events

-- a load is answered
abbrev pub answering : ℕ → Outcome → ℕ → Event
answering load outcome moment = event.Answer load outcome (record { nanos = moment })

-- a load is given up
abbrev pub giving_up : ℕ → ℕ → Event
giving_up load moment = event.GiveUp load (record { nanos = moment })

-- what is known of the loads under way
abbrev pub known_of_loads : List PendingLoad → Known
known_of_loads pending =
    known_in (record {
      latest = 0;
      opened = 0;
      sent = 0;
      connections = [];
      pending = pending;
      held = [];
      dropped = false;
    })

-- those that wait for this load
abbrev pub waiting_on : ℕ → UnderWay → List ℕ
waiting_on number loads =
    option_map_or (λ load. load.waiting) (load_numbered number loads.pending) []

-- the loads under way, except for this one
abbrev pub but_for : ℕ → UnderWay → UnderWay
but_for number loads =
    record {
      sent = loads.sent;
      pending = filter (λ load. not (load.number == number)) loads.pending;
    }

-- the event happened: each situation that the old state stood for is continued by a record of it
pub record Happens {S T : Type 0} (view : S → Values) (tape : T → Option Taped) (was is : NamespaceState S T)
    (happened : Event) : Type 0 where
  pub turned : (s : Situation) → StateStandsFor view was s → (entry : Record) × (entry.event ≡ happened)
      × Turned view tape was is s entry
  pub stays : IsSameNamespace view was is

-- ---- connections that wait

-- the connection with this number is there and open, and its first unread line is a `LOAD` that waits
pub record IsWaitingAt (config : Config) (connections : List Presence) (number : ℕ) : Type 0 where
  pub index : ℕ
  pub place : number ≡ suc index
  pub is : Connection
  pub at : slice_get connections index ≡ Some (Here is)
  pub waits : AwaitsLoad config is

-- each of them is like this, and is among them once
pub record AreWaiting (config : Config) (connections : List Presence) (numbers : List ℕ) :
    Type 0 where
  pub once : (n : ℕ) → times_in n numbers ≤ 1
  pub each : (n : ℕ) → 1 ≤ times_in n numbers → IsWaitingAt config connections n

-- each of them was opened
abbrev pub AreThere : List Presence → List ℕ → Type 0
AreThere connections numbers = (n : ℕ) → 1 ≤ times_in n numbers → (1 ≤ n) × (n ≤ length connections)

-- the connection at a place, if one is here, has room for this many bytes more of replies
abbrev pub HasReplyRoomAt : List Presence → ℕ → ℕ → Type 0
HasReplyRoomAt connections size index =
    (c : Connection) → slice_get connections index ≡ Some (Here c)
    → vec_len c.output.text + size ≤ vec_capacity c.output.text

-- each of these connections has it
abbrev pub HaveReplyRoom : List Presence → ℕ → List ℕ → Type 0
HaveReplyRoom connections size numbers =
    (n : ℕ) → 1 ≤ times_in n numbers → HasReplyRoomAt connections size (n - 1)

-- the outcome of its load can be handed to the connection at a place: it waits, and has room for the reply
pub record CanBeTold (config : Config) (connections : List Presence) (outcome : Outcome)
    (index : ℕ) : Type 0 where
  pub waits : IsWaitingAt config connections (index + 1)
  pub room : HasReplyRoomAt connections (length (outcome_text outcome)) index

-- one that was opened looks the same
abbrev pub LooksLike : (old new : Presence) → Type 0
LooksLike (Here c) (Here d) = LooksAsBefore c d
LooksLike (Here c) Out = ⊥
LooksLike (Here c) (Gone why) = ⊥
LooksLike Out new = new ≡ Out
LooksLike (Gone why) new = new ≡ Gone why

-- each of them does
abbrev pub AllLookAsBefore : (old new : List Presence) → Type 0
AllLookAsBefore [] [] = Unit {0}
AllLookAsBefore [] (d ∷ ds) = ⊥
AllLookAsBefore (c ∷ cs) [] = ⊥
AllLookAsBefore (c ∷ cs) (d ∷ ds) = LooksLike c d × AllLookAsBefore cs ds

-- no connection except the one at this place was touched
pub record LeavesOthers (old new : List Presence) (index : ℕ) : Type 0 where
  pub count : length new ≡ length old
  pub others : (place : ℕ) → place ≢ index → slice_get new place ≡ slice_get old place

-- no connection except the one at this place was touched, nor the store, and the same loads were taken
pub record LeavesRest {S T : Type 0} (was is : Base S T) (old new : List Presence) (index : ℕ) :
    Type 0 where
  pub store : is.store ≡ was.store
  pub others : LeavesOthers old new index
  pub goes : SameTaken was.loads is.loads

-- ---- what one of them does

-- it is open, and runs lines
abbrev pub runs_with : Option Closing → Standing → Bool
runs_with (Some why) standing = false
runs_with None now_is.Ready = true
runs_with None now_is.Held = false
runs_with None now_is.Waiting = false

-- there is a connection, and it is open and runs lines
abbrev pub runs_at : Option Presence → Bool
runs_at None = false
runs_at (Some (Here c)) = runs_with c.closing c.standing
runs_at (Some Out) = false
runs_at (Some (Gone why)) = false

-- A value was stored under the load's key, and what this reported was taken, or was not.
pub record StoresNoted {S : Type 0} (view : S → Values) (takes : Bool) (now : ℕ) (key : List ℕ)
    (outcome : Outcome) (accepted : Option Accepted) (notes : List Note) (old new : S) :
    Type 0 where
  pub middle : S
  pub stored : IsStored now key outcome accepted (view old) (view middle)
  pub drains : GivesNote (view middle) (view new)
  pub untaken_is : (view new).untaken ≡ (if takes then [] else (view middle).untaken)
  pub notes_are : takes ≡ true → notes ≡ (view middle).untaken

module _ {S T : Type 0} (view : S → Values) (tape : T → Option Taped) where
  -- the lines of the connection at a place ran, as in a feed of an empty piece
  pub record ResumesAt (now index : ℕ) (old new : Base S T) (were are : List Presence) : Type 0
    where
      pub put : ReplacedAt were are index
      pub is_held : Bool
      pub ran : FedRan now (index + 1) put.was [] put.is is_held (seen_at view tape old were index)
          (seen_at view tape new are index)

  -- ---- an answer's own step

  -- a load may be settled at this moment: no record is under way, and if records are kept no note waits outside them
  pub record CanSettle (now : ℕ) (base : Base S T) : Type 0 where
    pub in_time : IsMoment (view base.store) now
    pub rests : IsAtRest (tape base.tape)
    pub untaken : is_some (tape base.tape) ≡ true → (view base.store).untaken ≡ []

  -- The record of an answer was begun, with this many lines of room, and its value stored under the load's key; if records are kept, what
  -- this reported was taken.
  pub record BeginsAnswer (now load : ℕ) (outcome : Outcome) (accepted : Option Accepted)
      (notes : List Note) (room : ℕ) (old new : Base S T) : Type 0 where
    pub key : List ℕ
    pub keyed : option_map (λ l. l.key) (load_numbered load (loads_pending old.loads)) ≡ Some key
    pub middle : S
    pub stored : IsStored now key outcome accepted (view old.store) (view middle)
    pub drains : GivesNote (view middle) (view new.store)
    pub untaken_is : (view new.store).untaken
        ≡ (if is_some (tape old.tape) then [] else (view middle).untaken)
    pub notes_are : is_some (tape old.tape) ≡ true → notes ≡ (view middle).untaken
    pub begun : tape new.tape ≡ option_map (started room) (tape old.tape)
    pub loads_are : new.loads ≡ old.loads

  -- The load was removed, and parts of a record followed for those that waited for it.
  pub record HandsOut (now load : ℕ) (old new : Base S T) (were are : List Presence)
      (tasks : List ℕ → List Task) : Type 0 where
    pub left : Loads
    pub left_is : under_way left ≡ but_for load (under_way old.loads)
    pub parts : Parts view tape now (record {
      store = old.store;
      loads = left;
      tape = old.tape;
    }) new were are (tasks (waiting_on load (under_way old.loads)))
