-- When a step is right: in its turn, with its line, reply, load, value and notes.
use Rattle.std.specs.Prelude.{ℕ, Bool, true, false, not, ◌&&◌, ◌||◌, ◌==◌, nat_lt, nat_le, nat_eq, List, Option, Some, None, Ok, Err, if◌then◌else◌, is_some}
use Rattle.std.specs.Option.{option_eq, option_map}
use Rattle.audit_model.specs.Commands.{syncs, deed_of}
use Rattle.audit_model.specs.Bytewise.{same, is_empty}
use Rattle.audit_model.specs.Grammar.{reading, Reading}
use Rattle.audit_model.specs.History.{Effect, Action, Running, Faulting, Holding, Delivering, Abandoning, Storing, Value, part_count}
use Rattle.audit_model.specs.View.{View}
use Rattle.audit_model.specs.Replies.{is_reply, load_sent_by, offer_of, value_from}
use Rattle.audit_model.specs.Notes.{are_true_notes, candidates_of, is_silent, is_within}
use Rattle.audit_model.specs.declared.config.Config.{Config}
use Rattle.audit_model.specs.declared.event.Outcome.{Outcome}
use Rattle.audit_model.specs.declared.transcript.Step.{Step}

-- what can be due: storing an answer under its load's key; delivering it to a connection's waiting `LOAD`; running a connection's given-up
-- `LOAD` again; running its held command; running its lines, as long as one may run
pub data Task : Type 0 where
  Store : Option (List ℕ) → Outcome → Task
  Deliver : ℕ → Outcome → Task
  RunAgain : ℕ → Task
  RunHeld : ℕ → Task
  RunLines : ℕ → Task

-- what a line does, by what it was read as
abbrev pub action_by : Reading → Action
action_by (Ok command) = Running command
action_by (Err error) = Faulting error

-- a line is held back, or does what it says
abbrev pub action_of_line : Config → Step → Action
action_of_line config step = if step.held then Holding else action_by (reading config step.line)

-- what a step does for the task that is due; a `LOAD` that began to wait 200 times is abandoned at the next give-up
abbrev pub action_in : Config → ℕ → Option Task → Step → Action
action_in config times_waited (Some (Store key outcome)) step = Storing key outcome
action_in config times_waited (Some (Deliver conn outcome)) step = Delivering outcome
action_in config times_waited (Some (RunAgain conn)) step =
    if nat_le 200 times_waited then Abandoning else action_of_line config step
action_in config times_waited task step = action_of_line config step

-- the step with what it does, its moment and the value that it accepted
abbrev pub effect_in : Config → View → Action → Step → Effect
effect_in config seen action step =
    record {
      at = seen.now;
      action = action;
      reply = step.reply;
      load = step.load;
      value = value_from config seen.now (offer_of config seen action) (option_map (λ a. a.part) step.accepted);
      notes = step.notices;
    }

-- a step in its place: the task and the line that are due, what the step sees, what it does, and the values held after it
pub record PlacedStep : Type 0 where
  pub task : Option Task
  pub line : Option (List ℕ)
  pub seen : View
  pub step : Step
  pub effect : Effect
  pub held : List Value

-- the task belongs to this connection; an answer's own step belongs to none
abbrev pub is_task_of : ℕ → Option Task → Bool
is_task_of conn None = false
is_task_of conn (Some (Store key outcome)) = true
is_task_of conn (Some (Deliver c outcome)) = c == conn
is_task_of conn (Some (RunAgain c)) = c == conn
is_task_of conn (Some (RunHeld c)) = c == conn
is_task_of conn (Some (RunLines c)) = c == conn

-- it belongs to the connection that is due
abbrev pub is_in_turn : PlacedStep → Bool
is_in_turn placed = is_task_of placed.step.conn placed.task

-- a given-up `LOAD` and a line may be held back, but nothing that is abandoned, delivered or already held
abbrev pub may_hold : Option Task → Action → Bool
may_hold (Some (RunAgain conn)) Holding = true
may_hold (Some (RunLines conn)) Holding = true
may_hold task action = false

-- it is held back only if it may be
abbrev pub is_held_rightly : PlacedStep → Bool
is_held_rightly placed = not placed.step.held || may_hold placed.task placed.effect.action

-- its line is the one that is due
abbrev pub has_right_line : PlacedStep → Bool
has_right_line placed = option_eq same placed.line (Some placed.step.line)

-- its reply is the one that it owes
abbrev pub has_right_reply : Config → PlacedStep → Bool
has_right_reply config placed = is_reply config placed.seen placed.effect placed.held

-- it sends the load that it should send, with its number, or none
abbrev pub has_right_load : PlacedStep → Bool
has_right_load placed =
    option_eq nat_eq placed.step.load (load_sent_by placed.seen placed.effect.action)

-- a value is accepted exactly if one is offered, into one of the parts
abbrev pub has_right_acceptance : Config → PlacedStep → Bool
has_right_acceptance config placed =
    go (option_map (λ a. a.part) placed.step.accepted)
    (is_some (offer_of config placed.seen placed.effect.action))
  where
    go : Option ℕ → Bool → Bool
    go None offers = not offers
    go (Some part) offers = offers && nat_lt part (part_count config)

-- each note reports a value that is held, or that this step accepts, with a true cause
abbrev pub has_right_notes : Config → PlacedStep → Bool
has_right_notes config placed =
    let deed = deed_of placed.effect in are_true_notes config placed.seen.held deed (candidates_of config placed.seen.held deed) placed.effect.notes

-- a step that reports nothing has no notes
abbrev pub is_quiet_where_silent : PlacedStep → Bool
is_quiet_where_silent placed = not (is_silent placed.effect.action) || is_empty placed.effect.notes

-- after a `SYNC` each part weighs at most its share
abbrev pub keeps_shares : Config → PlacedStep → Bool
keeps_shares config placed = not (syncs placed.effect) || is_within config placed.held

-- all of these
abbrev pub is_right : Config → PlacedStep → Bool
is_right config placed =
    is_in_turn placed && is_held_rightly placed && has_right_line placed
    && has_right_reply config placed && has_right_load placed
    && has_right_acceptance config placed && has_right_notes config placed
    && is_quiet_where_silent placed && keeps_shares config placed
