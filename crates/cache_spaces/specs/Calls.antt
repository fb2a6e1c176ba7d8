-- What the calls of a service do to its namespaces, and what inputs do to it.
use Rattle.std.specs.Prelude.{◌≡◌, ℕ, ◌+◌, ◌-◌, ◌≤◌, Bool, true, false, List, [], length, Option, Some, IsTrue, slice_set, ◌⊎◌, ◌≢◌}
use Rattle.std.specs.List.{slice_get}
use Rattle.audit_model.specs.Belongs.{event_in}
use Rattle.audit_model.specs.Situation.{is_holding_in, Situation}
use Rattle.audit_model.specs.declared.event.Event.{Event}
use Rattle.audit_model.specs.declared.event.Instant.{Instant}
use Rattle.audit_model.specs.declared.event.Outcome.{Outcome}
use Rattle.audit_model.specs.declared.input.Input.{Input}
use Rattle.audit_model.specs.declared.input.LoadId.{LoadId}
use Rattle.audit_model.specs.declared.input.ServiceError.{ServiceError}
use Rattle.audit_model.specs.declared.transcript.Note.{Note}
use Rattle.audit_model.specs.declared.transcript.Record.{Record}
use Rattle.audit_laws.specs.Receipts.Answers.{output_of}
use Rattle.audit_laws.specs.declared.receipts.output.Output.{Output}
use Rattle.cache_commands.specs.Handing.{TakesFirstNote}
use Rattle.cache_commands.specs.Values.{GivesNote}
use Rattle.cache_commands.specs.Loads.Keys.{are_in_turn, have_their_keys}
use Rattle.cache_lines.specs.Tape.Taped.{Taped}
use Rattle.cache_core.specs.Settling.{Happens}
use Rattle.cache_core.specs.Owing as owing
use Rattle.cache_core.specs.State.{situation_with}
use Rattle.cache_core.specs.declared.owing.Owed.{Owed}
use Rattle.cache_core.specs.Turned.{RefusesBy, ContinuesBy, IsSameNamespace, Turned}
use Rattle.cache_spaces.specs.Spaces.{Space, untaken_notes, outgoing_of, place_of, taken_of, untaken_output, has_opened, StandsFor, shown_of}
use Rattle.audit_model.specs.declared.event.Event.TheVariants as event
use Rattle.audit_model.specs.declared.input.ServiceError.TheVariants as error
use Rattle.audit_model.specs.declared.input.Input.TheVariants as input

-- ---- which namespace

module _ {X : Type 0} where
  -- the namespace with this number was replaced by another, and this is true of the two; no other was touched
  pub record At (old new : List X) (namespace : ℕ) (Fact : X → X → Type 0) : Type 0 where
    pub was : X
    pub is : X
    pub at : slice_get old namespace ≡ Some was
    pub set : new ≡ slice_set old namespace is
    pub fact : Fact was is

  -- this is true of the namespace with this number
  pub record InSpace (spaces : List X) (namespace : ℕ) (Fact : X → Type 0) : Type 0 where
    pub space : X
    pub at : slice_get spaces namespace ≡ Some space
    pub fact : Fact space

  -- A call was refused: there is no such namespace; or there is, and the cause is true of it.
  abbrev pub Refuses : List X → ℕ → ServiceError → (X → Type 0) → Type 0
  Refuses spaces namespace e Cause =
      ((e ≡ error.NoNamespace) × (length spaces ≤ namespace)) ⊎ InSpace spaces namespace Cause

-- ---- events

module _ {T : Type 0} (tape : T → Option Taped) where
  -- Each situation that the namespace stood for is continued by a record of the event, whose last step is held back or not. If its tape
  -- keeps records, the record is on it; otherwise its replies and notes are appended to those that were not taken. Each connection is
  -- closed for the reason that the record gives.
  abbrev pub ServesEvent : Space T → Space T → Event → (is_held : Bool) → Type 0
  ServesEvent was is happened is_held = ContinuesBy shown_of tape was is happened is_held

  -- A connection was opened, with the next number of the namespace, from 1 on.
  abbrev pub OpensNext : Space T → Space T → ℕ → Type 0
  OpensNext was is number =
      ServesEvent was is (event.Open number) false × (number ≡ length was.closings + 1)

  -- the same for an answer or a give-up, by which several connections may have steps
  abbrev pub Settled : Space T → Space T → Event → Type 0
  Settled was is happened = Happens shown_of tape was is happened

module _ {T : Type 0} where
  -- a command of the connection is held back
  abbrev pub is_held_in : Space T → ℕ → Bool
  is_held_in space number = is_holding_in (situation_with shown_of space []) number

  -- the definition refuses the event with this error, or else memory was lacking: with `HeldAgain` only if a command is held back
  abbrev pub RefusedFor : Space T → Event → (held : Bool) → ServiceError → Type 0
  RefusedFor was happened held e = RefusesBy shown_of was happened held e

  -- ---- taking and looking

  -- the connection was opened
  abbrev pub IsOpened : Space T → ℕ → Type 0
  IsOpened space number = has_opened space number ≡ true

  -- it was never opened
  pub record IsUnknown (space : Space T) (number : ℕ) (e : ServiceError) : Type 0 where
    pub unknown : has_opened space number ≡ false
    pub error : e ≡ error.NoConnection

  -- the replies of a connection that was opened are moved out, and nothing else changes
  pub record TakesOutput (was is : Space T) (number : ℕ) (text : List ℕ) : Type 0 where
    pub opened : IsOpened was number
    pub taken : text ≡ untaken_output was number
    pub rest : is ≡ record was { outputs = slice_set was.outputs (number - 1) [] }

  -- the oldest note is taken, if there is one, and nothing else that can be seen changes
  pub record TakesNotice (was is : Space T) (note : Option Note) : Type 0 where
    pub taken : TakesFirstNote (untaken_notes was) (untaken_notes is) note
    pub gives : GivesNote (shown_of was.store) (shown_of is.store)
    pub rest : is ≡ record was { store = is.store }

  -- The loads that were sent and not taken are moved out, and nothing else changes: they are the namespace's loads in order, after those
  -- that were taken before, and each that is under way comes with its key.
  pub record TakesLoads (was is : Space T) (loads : List (LoadId × List ℕ)) : Type 0 where
    pub taken : loads ≡ outgoing_of was
    pub rest : is ≡ record was { outgoing = [] }
    pub in_turn : IsTrue (are_in_turn (place_of was) (taken_of was) loads)
    pub keys : IsTrue (have_their_keys was.pending loads)

  -- what a connection that was opened is owed was moved out, and nothing else changes
  abbrev pub GivesConnectionOwed : Space T → Space T → ℕ → (wants_loads : Bool) → Owed → Type 0
  GivesConnectionOwed was is number wants_loads owed =
      IsOpened was number × owing.GivesOwed shown_of was is number wants_loads owed

-- What inputs do to a service.

-- the namespace that an input names
abbrev pub namespace_of : Input → ℕ
namespace_of (input.Open n) = n
namespace_of (input.Close conn) = conn.namespace
namespace_of (input.Feed conn piece moment) = conn.namespace
namespace_of (input.Answer load outcome moment) = load.namespace
namespace_of (input.GiveUp load moment) = load.namespace

-- it is not an answer
abbrev pub IsNoAnswer : Input → Type 0
IsNoAnswer i =
    (load : LoadId) (outcome : Outcome) (moment : Instant) → i ≢ input.Answer load outcome moment

module _ {T : Type 0} where
  -- a command is held back on the connection that the input feeds
  abbrev pub is_held_for : Space T → Input → Bool
  is_held_for was (input.Feed conn piece moment) = is_held_in was conn.number
  is_held_for was i = false

  -- the input's event is refused with this error
  pub record RefusedInput (i : Input) (e : ServiceError) (was : Space T) : Type 0 where
    pub happened : Event
    pub event : event_in (namespace_of i) (length was.closings) i ≡ Some happened
    pub refused : RefusedFor was happened (is_held_for was i) e

module _ {T : Type 0} (tape : T → Option Taped) where
  -- from this situation the input's event happened, by a record with this output
  pub record PerformsFrom (i : Input) (output : Output) (was is : Space T) (s : Situation) : Type 0
    where
      pub entry : Record
      pub event : event_in (namespace_of i) (length was.closings) i ≡ Some entry.event
      pub answers : output ≡ output_of (namespace_of i) entry
      pub turned : Turned shown_of tape was is s entry

  -- this is so from each situation that the namespace stood for
  pub record Performs (i : Input) (output : Output) (was is : Space T) : Type 0 where
    pub from : (s : Situation) → StandsFor was s → PerformsFrom i output was is s
    pub stays : IsSameNamespace shown_of was is
