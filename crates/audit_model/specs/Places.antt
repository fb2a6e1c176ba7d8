-- The steps of a transcript, each in its place in the whole history.
use Rattle.std.specs.Prelude.{ℕ, Bool, false, List, [], ◌∷◌, ◌++◌, map, Option, Some, None, if◌then◌else◌}
use Rattle.std.specs.List.{flat_map}
use Rattle.audit_model.specs.History.{History, Happening, Opened, Closed, Fed, Settled, Stored, Ran, Effect, latest_moment}
use Rattle.audit_model.specs.Stream.{may_run, holds, times_waited, unanswered, first_line}
use Rattle.audit_model.specs.Values.{held_values}
use Rattle.audit_model.specs.Loads.{key_of_load, waiting_for}
use Rattle.audit_model.specs.Seen.{view_of}
use Rattle.audit_model.specs.Steps.{Task, Store, Deliver, RunAgain, RunHeld, RunLines, PlacedStep, action_in, effect_in}
use Rattle.audit_model.specs.declared.config.Config.{Config}
use Rattle.audit_model.specs.declared.event.Event.{Event}
use Rattle.audit_model.specs.declared.event.Event.TheVariants as event
use Rattle.audit_model.specs.declared.event.Outcome.{Outcome}
use Rattle.audit_model.specs.declared.transcript.Record.{Record}
use Rattle.audit_model.specs.declared.transcript.Step.{Step}
use Rattle.audit_model.specs.declared.transcript.Transcript.{Transcript}

-- what an answer makes due: its value is stored, then each waiting `LOAD` is answered in order, then the lines of each of these connections
-- run in the same order
abbrev pub tasks_to_answer : Option (List ℕ) → Outcome → List ℕ → List Task
tasks_to_answer key outcome conns =
    Store key outcome ∷ map (λ conn. Deliver conn outcome) conns ++ map RunLines conns

-- after a give-up each waiting `LOAD` runs again in order, followed by its connection's lines
abbrev pub tasks_to_give_up : List ℕ → List Task
tasks_to_give_up conns = flat_map (λ conn. RunAgain conn ∷ RunLines conn ∷ []) conns

-- a feed runs the command that the connection holds back, and then its lines
abbrev pub tasks_to_feed : ℕ → Bool → List Task
tasks_to_feed conn held = (if held then RunHeld conn ∷ [] else []) ++ RunLines conn ∷ []

-- what an event makes due after all that happened before it
abbrev pub tasks_of : History → Event → List Task
tasks_of past (event.Open conn) = []
tasks_of past (event.Close conn) = []
tasks_of past (event.Feed conn piece moment) = tasks_to_feed conn (holds conn past)
tasks_of past (event.Answer load outcome moment) =
    tasks_to_answer (key_of_load load past) outcome (waiting_for (key_of_load load past) past)
tasks_of past (event.GiveUp load moment) =
    tasks_to_give_up (waiting_for (key_of_load load past) past)

-- the event, as the history keeps it
abbrev pub happening_of : Event → Happening
happening_of (event.Open conn) = Opened conn
happening_of (event.Close conn) = Closed conn
happening_of (event.Feed conn piece moment) = Fed conn piece moment.nanos
happening_of (event.Answer load outcome moment) = Settled load moment.nanos
happening_of (event.GiveUp load moment) = Settled load moment.nanos

-- the tasks from the one that is due now on: lines are due as long as one may run
abbrev pub due : (ℕ → Bool) → List Task → List Task
due may [] = []
due may (RunLines conn ∷ tasks) = if may conn then RunLines conn ∷ tasks else due may tasks
due may (task ∷ tasks) = task ∷ tasks

-- the task that is due now
abbrev pub first_due : List Task → Option Task
first_due [] = None
first_due (task ∷ tasks) = Some task

-- the tasks that are left after a step of the first one has run; lines stay due
abbrev pub left_after : List Task → List Task
left_after [] = []
left_after (RunLines conn ∷ tasks) = RunLines conn ∷ tasks
left_after (task ∷ tasks) = tasks

-- the step, as the history keeps it
abbrev pub step_happens : Option Task → Step → Effect → Happening
step_happens (Some (Store key outcome)) step effect = Stored effect
step_happens task step effect = Ran step.conn effect

-- the line that is due: the first line of the connection without a reply; an answer's own step has none
abbrev pub line_due : Option Task → ℕ → History → Option (List ℕ)
line_due (Some (Store key outcome)) conn past = Some []
line_due task conn past = first_line (unanswered conn past)

-- the step in its place, by the history before it
abbrev pub placed_step : Config → ℕ → History → Option Task → Step → PlacedStep
placed_step config made past task step =
    let seen = view_of config past (latest_moment made past) in
    let effect = effect_in config seen (action_in config (times_waited step.conn past) task step) step in
    record {
      task = task;
      line = line_due task step.conn past;
      seen = seen;
      step = step;
      effect = effect;
      held = held_values (step_happens task step effect ∷ past);
    }

-- steps in their places, what is due after they have run, and all that happened until then
pub record Walk : Type 0 where
  pub placed_steps : List PlacedStep
  pub left : List Task
  pub after : History

-- the steps run one after another, each for the task that is due
abbrev pub walk : Config → ℕ → History → List Task → List Step → Walk
walk config made past tasks [] =
    record { placed_steps = []; left = due (λ conn. may_run conn past) tasks; after = past }
walk config made past tasks (step ∷ steps) =
    let now_due = due (λ conn. may_run conn past) tasks in
    let placed = placed_step config made past (first_due now_due) step in
    let rest = walk config made (step_happens placed.task step placed.effect ∷ past) (left_after now_due) steps in
    record { placed_steps = placed ∷ rest.placed_steps; left = rest.left; after = rest.after }

-- an answer's own step comes first
abbrev pub steps_of : Record → List Step
steps_of entry = go entry.event
  where
    go : Event → List Step
    go (event.Answer load outcome moment) = record {
      conn = 0;
      line = [];
      held = false;
      reply = None;
      load = None;
      accepted = entry.own;
      notices = entry.notices;
    } ∷ entry.steps
    go other = entry.steps

-- a record in its place
pub record PlacedRecord : Type 0 where
  pub before : History
  pub entry : Record
  pub walked : Walk

-- the record in its place: its event happens, then its steps run
abbrev pub placed_record : Config → ℕ → History → Record → PlacedRecord
placed_record config made past entry =
    record {
      before = past;
      entry = entry;
      walked = walk config made (happening_of entry.event ∷ past) (tasks_of past entry.event) (steps_of entry);
    }

-- the records in their places, after that history
abbrev pub placed_records_after : Config → ℕ → History → List Record → List PlacedRecord
placed_records_after config made past [] = []
placed_records_after config made past (entry ∷ entries) =
    let placed = placed_record config made past entry in placed ∷ placed_records_after config made placed.walked.after entries

-- all that has happened after these records have run
abbrev pub history_after : Config → ℕ → History → List Record → History
history_after config made past [] = past
history_after config made past (entry ∷ entries) =
    history_after config made (placed_record config made past entry).walked.after entries

-- the records in their places
abbrev pub placed_records : Config → Transcript → List PlacedRecord
placed_records config transcript =
    placed_records_after config transcript.made.nanos [] transcript.records

-- the steps in their places
abbrev pub placed_steps : Config → Transcript → List PlacedStep
placed_steps config transcript =
    flat_map (λ placed. placed.walked.placed_steps) (placed_records config transcript)
