-- What one event does to a namespace.
use Rattle.std.specs.Prelude.{◌≡◌, ℕ, ◌+◌, ◌==◌, length, not, ◌||◌, Bool, true, false, List, [], ◌++◌, Option, Some, None, is_some, MatchOption, ◌⊎◌, IsTrue, if◌then◌else◌}
use Rattle.std.specs.List.{filter, flat_map, list_all}
use Rattle.std.specs.Option.{option_map, option_map_or}
use Rattle.audit_laws.specs.Leading.{is_parted}
use Rattle.audit_laws.specs.Placing.{accepted_in}
use Rattle.audit_model.specs.Belongs.{refusal_of}
use Rattle.audit_model.specs.Bytewise.{same}
use Rattle.audit_model.specs.Follows.{Follows, after_event, tasks_in}
use Rattle.audit_model.specs.Places.{steps_of}
use Rattle.audit_model.specs.Situation.{PendingLoad, Situation, connection_in, is_waiting_now}
use Rattle.audit_model.specs.declared.command.Closing.{Closing}
use Rattle.audit_model.specs.declared.config.Config.{Config}
use Rattle.audit_model.specs.declared.event.Event.{Event}
use Rattle.audit_model.specs.declared.input.LoadId.{LoadId}
use Rattle.audit_model.specs.declared.input.ServiceError.{ServiceError}
use Rattle.audit_model.specs.declared.transcript.Note.{Note}
use Rattle.audit_model.specs.declared.transcript.Record.{Record}
use Rattle.audit_model.specs.declared.transcript.Step.{Step}
use Rattle.cache_commands.specs.Loads.Keys.{are_in_turn}
use Rattle.cache_commands.specs.Loads.Pending.{load_numbered}
use Rattle.cache_lines.specs.Drawing.{StepsDraw, identifiers_in}
use Rattle.cache_lines.specs.Ended.{ends_held, ends_silent}
use Rattle.cache_lines.specs.Gathered.{reply_in}
use Rattle.cache_lines.specs.Lines.{are_timely, ends_quit}
use Rattle.cache_lines.specs.Ordered.{OrdersSteps}
use Rattle.cache_lines.specs.Tape.Taped.{Taped, with_entry}
use Rattle.cache_commands.specs.Values.{Values}
use Rattle.audit_model.specs.declared.command.Closing.TheVariants as by
use Rattle.audit_model.specs.declared.event.Event.TheVariants as event
use Rattle.audit_model.specs.declared.input.ServiceError.TheVariants as error
use Rattle.cache_commands.specs.Running.{is_bounded}
use Rattle.cache_core.specs.Connection.Fed.{closing_by}
use Rattle.cache_core.specs.State.{NamespaceState, StateStandsFor, closing_in, known_of_state, loads_taken_of, output_in}

-- ---- what a record says of one connection

-- the steps of this connection
abbrev pub own_steps : ℕ → List Step → List Step
own_steps number steps = filter (λ step. step.conn == number) steps

-- the replies of this connection's steps
abbrev pub replies_to : ℕ → List Step → List ℕ
replies_to number steps = flat_map reply_in (own_steps number steps)

-- a `LOAD` of it waits
abbrev pub is_waiting_in : Situation → ℕ → Bool
is_waiting_in s number =
    option_map_or (λ c. is_waiting_now c.standing) (connection_in number s) false

-- why a connection closes that an event closes: as requested; or because of what its lines did, or did not do, since a `LOAD` of it waited
abbrev pub reason_of : Config → Situation → ℕ → Event → List Step → Closing
reason_of config s number (event.Close conn) steps = by.Asked
reason_of config s number (event.Feed conn piece moment) steps =
    closing_by (is_waiting_in s number) (ends_quit config (own_steps number steps))
    (ends_silent (own_steps number steps))
reason_of config s number happened steps =
    closing_by false (ends_quit config (own_steps number steps))
    (ends_silent (own_steps number steps))

-- why the connection is closed after the record, if it is: as before; or because it is no longer open
abbrev pub closing_behind : Config → Situation → Record → Situation → Option Closing → ℕ
    → Option Closing
closing_behind config s entry next (Some why) number = Some why
closing_behind config s entry next None number =
    if is_some (connection_in number next) || not (is_some (connection_in number s)) then None
    else Some (reason_of config s number entry.event entry.steps)

-- ---- a turn

-- what a record reports
abbrev pub notes_in : Record → List Note
notes_in entry = flat_map (λ step. step.notices) (steps_of entry)

-- the record after the others
abbrev pub with_record : Record → Taped → Taped
with_record entry t = record t { journal = with_entry entry t.journal }

-- From this situation a record of the event followed to one for which the new state stands. If records are kept, it is the last of them;
-- otherwise the replies of its steps are appended to the output of each connection, and its notes to the notes. Each connection is closed
-- for the reason that the record gives. Values were accepted in the part of their key; a `SYNC` left timely ones; parts hold at most what
-- they may; identifiers were drawn, and keys used, as the steps say.
pub record Turned {S T : Type 0} (view : S → Values) (tape : T → Option Taped) (was is : NamespaceState S T)
    (s : Situation) (entry : Record) : Type 0 where
  pub next : Situation
  pub stands : StateStandsFor view is next
  pub follows : Follows (view was.store).frame.config s entry next
  pub kept : tape is.tape ≡ option_map (with_record entry) (tape was.tape)
  pub outputs : (number : ℕ) → output_in is number ≡ output_in was number
      ++ (if is_some (tape was.tape) then [] else replies_to number entry.steps)
  pub notes : (view is.store).untaken ≡ (view was.store).untaken
      ++ (if is_some (tape was.tape) then [] else notes_in entry)
  pub closings : (number : ℕ) → closing_in is number
      ≡ closing_behind (view was.store).frame.config s entry next (closing_in was number) number
  pub parted : IsTrue (list_all (is_parted (view was.store).frame.part_of)
      (accepted_in (view was.store).frame.config s entry))
  pub timely : IsTrue (are_timely (view was.store).frame.config (view was.store).frame.made
      (after_event entry.event s) (tasks_in s entry.event) (steps_of entry))
  pub bounded : IsTrue (is_bounded (view was.store).frame.config next.held)
  pub draws : StepsDraw (view was.store).frame.config entry.steps (identifiers_in (view was.store))
      (identifiers_in (view is.store))
  pub ordered : OrdersSteps (view was.store).frame.config (view was.store).Used (view is.store).Used
      (after_event entry.event s) (tasks_in s entry.event) (steps_of entry)

-- the load is under way, with that key
abbrev pub is_sent : List PendingLoad → LoadId × List ℕ → Bool
is_sent pending sent =
    option_map_or (λ load. same load.key sent.1) (load_numbered sent.0.number pending) false

-- Loads went out behind those that were not taken. They have the next numbers, and are under way, each with its key.
pub record SendsBehind {S T : Type 0} (was is : NamespaceState S T) : Type 0 where
  pub loads : List (LoadId × List ℕ)
  pub behind : is.outgoing ≡ was.outgoing ++ loads
  pub in_turn : IsTrue (are_in_turn was.namespace was.sent loads)
  pub count : is.sent ≡ was.sent + length loads
  pub keys : IsTrue (list_all (is_sent is.pending) loads)

-- what no event changes: what the store was made with, which loads were taken, and that those that were not come first, in their order
pub record IsSameNamespace {S T : Type 0} (view : S → Values) (was is : NamespaceState S T) : Type 0 where
  pub config : (view is.store).frame.config ≡ (view was.store).frame.config
  pub part_of : (view is.store).frame.part_of ≡ (view was.store).frame.part_of
  pub made : (view is.store).frame.made ≡ (view was.store).frame.made
  pub namespace : is.namespace ≡ was.namespace
  pub taken : loads_taken_of is ≡ loads_taken_of was
  pub sends : SendsBehind was is

-- a record of this event, whose last step is held back or not
pub record IsRecordOf (happened : Event) (is_held : Bool) (entry : Record) : Type 0 where
  pub event_is : entry.event ≡ happened
  pub ends : ends_held entry.steps ≡ is_held

-- the event happened: each situation that the old state stood for is continued by a record of it
pub record ContinuesBy {S T : Type 0} (view : S → Values) (tape : T → Option Taped) (was is : NamespaceState S T)
    (happened : Event) (is_held : Bool) : Type 0 where
  pub turned : (s : Situation) → StateStandsFor view was s → (entry : Record)
      × IsRecordOf happened is_held entry × Turned view tape was is s entry
  pub stays : IsSameNamespace view was is

-- The event is refused for what is known, and otherwise only for lack of memory: with `HeldAgain` only if a command of its connection is
-- held back.
abbrev pub RefusesBy : {S T : Type 0} → (S → Values) → NamespaceState S T → Event → (held : Bool)
    → ServiceError → Type 0
RefusesBy view n happened held e =
    MatchOption (refusal_of (view n.store).frame.config (known_of_state view n) happened)
    ((e ≡ error.OutOfMemory) ⊎ ((e ≡ error.HeldAgain) × (held ≡ true))) (λ refused. e ≡ refused)

-- a piece of bytes comes
abbrev pub feeding : ℕ → List ℕ → ℕ → Event
feeding conn piece moment = event.Feed conn piece (record { nanos = moment })
