-- What the reply to a line guarantees.
use Rattle.std.specs.Prelude.{◌≡◌, ℕ, ◌+◌, ◌≤◌, ◌++◌, ◌||◌, Bool, true, false, is_some, List, length, Option, Some, None, Ok, IfSome, IsTrue, codes}
use Rattle.std.specs.List.{list_all}
use Rattle.audit_lines.specs.Request.{IsOwn}
use Rattle.audit_model.specs.Bytewise.{is_empty}
use Rattle.audit_model.specs.Commands.{is_sync}
use Rattle.audit_model.specs.Grammar.{Reading}
use Rattle.audit_model.specs.History.{part_count}
use Rattle.audit_model.specs.Situation.{HeldValue, Situation}
use Rattle.audit_model.specs.Steps.{action_by}
use Rattle.audit_model.specs.declared.config.Config.{Config}
use Rattle.audit_model.specs.declared.event.Outcome.{Outcome}
use Rattle.audit_model.specs.declared.transcript.Accepted.{Accepted}
use Rattle.cache_commands.specs.Identifiers.{AreUsedUp, KeepsIdentifiers}
use Rattle.cache_commands.specs.Values.{Values}
use Rattle.audit_model.specs.declared.command.Command.TheVariants as says
use Rattle.cache_commands.specs.Handing.{AppendsNotes}
use Rattle.cache_commands.specs.Running.{is_timely}
use Rattle.cache_commands.specs.Drawing.{DrawsForParts}
use Rattle.cache_commands.specs.Loading.{Stores}
use Rattle.cache_commands.specs.Order.{MovesOrder}
use Rattle.cache_commands.specs.Right.{RepliesRightly, KeepsFrame}

-- the store stands for the situation at this moment
pub record Agrees (v : Values) (now : ℕ) (s : Situation) : Type 0 where
  pub at : s.latest ≡ now
  pub dropped : s.dropped ≡ v.frame.dropped
  pub stands : v.Stands s.held

-- the key whose value the line may store
abbrev pub key_written : Reading → Option (List ℕ)
key_written (Ok (says.Set key ms value)) = Some key
key_written (Ok (says.Add key ms number)) = Some key
key_written reading = None

-- a value that a line may store: not too long, with an own deadline only if these are allowed
pub record IsTakable (config : Config) (bytes : List ℕ) (milliseconds : Option ℕ) : Type 0 where
  pub short : length bytes ≤ 8192
  pub own : IsOwn config milliseconds

-- the line is a `DROPIF`
abbrev pub says_drop : Reading → Bool
says_drop (Ok (says.DropIf prefix)) = true
says_drop reading = false

-- A line that reads like this was answered: its reply was appended to what was written, and its step is right in each situation that the
-- store stood for. A `SYNC` left timely values; a `DROPIF` drew as it may; the order of use is known again; at most one 64-bit number was
-- used up.
pub record IsAnswered (now : ℕ) (reading : Reading) (accepted : Option Accepted) (was is : Values)
    (old new : List ℕ) : Type 0 where
  pub right : (s : Situation) → Agrees was now s
      → RepliesRightly was.frame.config s (action_by reading) accepted is.Stands is.frame.dropped
      (AppendsNotes was.untaken is.untaken) old new
  pub part : IfSome accepted
      (λ a. IfSome (key_written reading) (λ key. a.part ≡ was.frame.part_of key))
  pub timely : is_sync (action_by reading) ≡ true → (held : List HeldValue) → is.Stands held
      → IsTrue (list_all (is_timely was.frame.config was.frame.made now) held)
  pub frame : KeepsFrame was.frame is.frame now
  pub spent : is.spent ≤ was.spent + 1
  pub few : length is.untaken ≤ length was.untaken + was.count + 1
  pub draws : DrawsForParts was.stream is.stream was.registered is.registered
  pub used_up : says_drop reading ≡ true → new ≡ old ++ codes "ERR id\n"
      → AreUsedUp (part_count was.frame.config) was.stream is.stream was.registered
  pub order : MovesOrder was.frame.config was.Used is.Used reading

-- An answer's value was stored under the load's key: the step is right in each situation that the store stood for, and reports nothing if
-- no part took a value.
pub record IsStored (now : ℕ) (key : List ℕ) (outcome : Outcome) (accepted : Option Accepted)
    (was is : Values) : Type 0 where
  pub right : (s : Situation) → s.latest ≡ now → was.Stands s.held → (x : Stores
      was.frame.config s key outcome accepted is.Stands (AppendsNotes was.untaken is.untaken))
      × ((is_some accepted || is_empty x.told) ≡ true)
  pub part : IfSome accepted (λ a. a.part ≡ was.frame.part_of key)
  pub frame : KeepsFrame was.frame is.frame now
  pub dropped : is.frame.dropped ≡ was.frame.dropped
  pub spent : is.spent ≤ was.spent + 1
  pub few : length is.untaken ≤ length was.untaken + was.count + 1
  pub identifiers : KeepsIdentifiers was.stream is.stream was.registered is.registered
