-- A connection's lines, run one after another.
use Rattle.std.specs.Prelude.{◌≡◌, ℕ, Bool, false, true, not, ◌&&◌, ◌||◌, List, [], ◌∷◌, Ok, IsTrue, is_some, if◌then◌else◌}
use Rattle.std.specs.List.{list_all}
use Rattle.std.specs.Option.{option_map_or}
use Rattle.audit_laws.specs.Leading.{is_parted}
use Rattle.audit_model.specs.Changes.{after_step, join_load}
use Rattle.audit_model.specs.Commands.{quits, syncs}
use Rattle.audit_model.specs.Follows.{placed_step_in}
use Rattle.audit_model.specs.Grammar.{Reading, reading}
use Rattle.audit_model.specs.History.{Effect}
use Rattle.audit_model.specs.Places.{due, first_due, left_after}
use Rattle.audit_model.specs.Situation.{Situation, Connection, HeldValue, Ready, Held, connection_in, may_run_in, with_connection, without_connection}
use Rattle.audit_model.specs.Steps.{Task}
use Rattle.audit_model.specs.Stream.{is_held}
use Rattle.audit_model.specs.declared.config.Config.{Config}
use Rattle.audit_model.specs.declared.transcript.Step.{Step}
use Rattle.cache_commands.specs.Running.{is_timely}
use Rattle.audit_model.specs.declared.command.Command.TheVariants as says

-- a connection that runs lines, with these bytes unread
abbrev pub ready : ℕ → List ℕ → Connection
ready number bytes = record { number = number; unread = bytes; standing = Ready; waited = 0 }

-- a connection that holds a line back, with these bytes unread after it
abbrev pub holding : ℕ → List ℕ → List ℕ → Connection
holding number line bytes =
    record { number = number; unread = bytes; standing = Held line; waited = 0 }

-- the situation, with these values held and this connection as it is now
abbrev pub set_in : Situation → List HeldValue → Connection → Situation
set_in base held connection = with_connection false connection (record base { held = held })

-- the situation with a `DROPIF` accepted, or none
abbrev pub with_drops : Bool → Situation → Situation
with_drops dropped s = record s { dropped = dropped }

-- the situation, with these values held and this connection as it is now, or closed by a `QUIT`
abbrev pub situation_behind : Bool → Situation → List HeldValue → Connection → Situation
situation_behind quit base held connection =
    if quit then without_connection connection.number (record base {
      held = held;
    }) else set_in base held connection

-- the connection is open there
abbrev pub IsThere : ℕ → Situation → Type 0
IsThere number s = IsTrue (is_some (connection_in number s))

-- the value that the step accepts, if any, is in the part of its key
abbrev pub has_its_part : (List ℕ → ℕ) → Effect → Bool
has_its_part part_of effect = option_map_or (is_parted part_of) effect.value true

-- a `SYNC` leaves no value that is covered or long dead
abbrev pub is_timely_after : Config → ℕ → Effect → Situation → Bool
is_timely_after config made effect t =
    not (syncs effect) || list_all (is_timely config made t.latest) t.held

-- the same for these steps
abbrev pub are_timely : Config → ℕ → Situation → List Task → List Step → Bool
are_timely config made s tasks [] = true
are_timely config made s tasks (step ∷ steps) =
    let now_due = due (may_run_in s) tasks in
    let placed = placed_step_in config s (first_due now_due) step in
    let t = after_step config s placed.task step placed.effect in
    is_timely_after config made placed.effect t
    && are_timely config made t (left_after now_due) steps

-- a step that does something only to values, and may close its connection; it joins no load
pub record TouchesOnlyValues (effect : Effect) (quit : Bool) : Type 0 where
  pub stays : is_held effect ≡ false
  pub quits : quits effect ≡ quit
  pub loads : (conn : ℕ) (s : Situation) → join_load conn effect s ≡ s

-- the line is a `QUIT`
abbrev pub says_quit : Reading → Bool
says_quit (Ok says.Quit) = true
says_quit other = false

-- a `QUIT` that ran comes last
abbrev pub ends_quit : Config → List Step → Bool
ends_quit config [] = false
ends_quit config (step ∷ []) = not step.held && says_quit (reading config step.line)
ends_quit config (step ∷ next ∷ steps) = ends_quit config (next ∷ steps)
