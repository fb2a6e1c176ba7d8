-- What a record shows of a step, and what is due.
use Rattle.std.specs.Prelude.{Bool, true, false, Option, Some}
use Rattle.std.specs.Option.{option_map}
use Rattle.audit_model.specs.Steps.{Task, Store, Deliver, RunAgain, RunHeld, RunLines}
use Rattle.audit_model.specs.declared.transcript.Step.{Step}
use Rattle.moka_audit.specs.declared.steps.shown.Shown.{Shown}
use Rattle.moka_audit.specs.declared.steps.shown.Duty.{Duty}
use Rattle.moka_audit.specs.declared.steps.shown.Duty.TheVariants as duty

-- the step
abbrev pub shown_step : Shown → Step
shown_step shown =
    record {
      conn = shown.conn;
      line = shown.line.now;
      held = shown.held;
      reply = option_map (λ r. r.now) shown.reply;
      load = shown.load;
      accepted = shown.accepted;
      notices = shown.notices.now;
    }

-- the task
abbrev pub task_of : Duty → Task
task_of (duty.Store key outcome) = Store (option_map (λ k. k.now) key) outcome.now
task_of (duty.Deliver conn outcome) = Deliver conn outcome.now
task_of (duty.RunAgain conn) = RunAgain conn
task_of (duty.RunHeld conn) = RunHeld conn
task_of (duty.RunLines conn) = RunLines conn

-- lines are due
abbrev pub runs_lines : Option Task → Bool
runs_lines (Some (RunLines conn)) = true
runs_lines task = false

-- storing an answer is due
abbrev pub is_store_due : Option Task → Bool
is_store_due (Some (Store key outcome)) = true
is_store_due task = false
