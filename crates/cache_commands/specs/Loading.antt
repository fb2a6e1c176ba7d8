-- What `LOAD`s and the outcome of a load guarantee.
use Rattle.std.specs.Prelude.{◌≡◌, ℕ, false, List, [], Option, Some, None}
use Rattle.audit_model.specs.History.{Action, Running, Storing}
use Rattle.audit_model.specs.Replies.{load_sent_by}
use Rattle.audit_model.specs.Situation.{Situation, HeldValue, view_in}
use Rattle.audit_model.specs.declared.config.Config.{Config}
use Rattle.audit_model.specs.declared.event.Outcome.{Outcome}
use Rattle.audit_model.specs.declared.transcript.Accepted.{Accepted}
use Rattle.audit_model.specs.declared.transcript.Note.{Note}
use Rattle.audit_model.specs.declared.transcript.Step.{Step}
use Rattle.audit_model.specs.declared.command.Command.TheVariants as says
use Rattle.cache_commands.specs.Right.{DoesRight, held_when_run, dropped_when_run, step_saying}

-- a step without a reply, of this connection and line, which sends this load
abbrev pub step_silent : ℕ → List ℕ → Option ℕ → Option Accepted → List Note → Step
step_silent conn line load accepted told =
    record {
      conn = conn;
      line = line;
      held = false;
      reply = None;
      load = load;
      accepted = accepted;
      notices = told;
    }

-- the step of a `LOAD` of the key that begins to wait
abbrev pub step_waiting : Config → Situation → List ℕ → ℕ → List ℕ → Step
step_waiting config s key conn line =
    step_silent conn line (load_sent_by (view_in config s) (Running (says.Load key))) None []

-- a `LOAD` of the key that begins to wait, and sends a load if none is under way, is right, and its values are held
pub record Waits (config : Config) (s : Situation) (key : List ℕ) (Stands : List HeldValue → Type 0)
    : Type 0 where
  pub right : DoesRight config s (Running (says.Load key)) (step_waiting config s key 0 [])
  pub left : Stands
      (held_when_run config s (Running (says.Load key)) (step_waiting config s key 0 []))
  pub undropped : dropped_when_run config s (Running (says.Load key))
      (step_waiting config s key 0 []) ≡ s.dropped

-- a step that reads this, and does nothing to values, is right, and its values are held
pub record SaysRightly (config : Config) (s : Situation) (action : Action) (reply : List ℕ)
    (Stands : List HeldValue → Type 0) : Type 0 where
  pub right : DoesRight config s action (step_saying 0 [] reply None [])
  pub left : Stands (held_when_run config s action (step_saying 0 [] reply None []))
  pub undropped : dropped_when_run config s action (step_saying 0 [] reply None []) ≡ s.dropped

-- the step that stores an answer's value is right, with these notes
pub record Stores (config : Config) (s : Situation) (key : List ℕ) (outcome : Outcome)
    (accepted : Option Accepted) (Stands : List HeldValue → Type 0) (Handed : List Note → Type 0) :
    Type 0 where
  pub told : List Note
  pub right : DoesRight config s (Storing (Some key) outcome) (step_silent 0 [] None accepted told)
  pub left : Stands
      (held_when_run config s (Storing (Some key) outcome) (step_silent 0 [] None accepted told))
  pub undropped : dropped_when_run config s (Storing (Some key) outcome)
      (step_silent 0 [] None accepted told) ≡ s.dropped
  pub handed : Handed told
