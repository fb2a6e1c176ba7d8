-- Steps in their places, by situations alone.
use Rattle.std.specs.Prelude.{List, [], ◌∷◌, ◌++◌, Option, Some, None, if◌then◌else◌}
use Rattle.std.specs.Option.{option_map_or}
use Rattle.audit_model.specs.Changes.{after_step}
use Rattle.audit_model.specs.Follows.{tasks_in, after_event, placed_step_in, after_record}
use Rattle.audit_model.specs.History.{Value}
use Rattle.audit_model.specs.Obeys.{accepted_values}
use Rattle.audit_model.specs.Places.{due, first_due, left_after, steps_of}
use Rattle.audit_model.specs.Situation.{Situation, may_run_in}
use Rattle.audit_model.specs.Steps.{Task, PlacedStep, is_right}
use Rattle.audit_model.specs.declared.config.Config.{Config}
use Rattle.audit_model.specs.declared.transcript.Record.{Record}
use Rattle.audit_model.specs.declared.transcript.Step.{Step}

-- steps in their places, if these tasks are due
abbrev pub placed_steps_in : Config → Situation → List Task → List Step → List PlacedStep
placed_steps_in config s tasks [] = []
placed_steps_in config s tasks (step ∷ steps) =
    let now_due = due (may_run_in s) tasks in
    let placed = placed_step_in config s (first_due now_due) step in
    placed ∷ placed_steps_in config (after_step config s placed.task step placed.effect)
    (left_after now_due) steps

-- the steps of a record in their places
abbrev pub placed_in : Config → Situation → Record → List PlacedStep
placed_in config s entry =
    placed_steps_in config (after_event entry.event s) (tasks_in s entry.event) (steps_of entry)

-- the values that a record accepts
abbrev pub accepted_in : Config → Situation → Record → List Value
accepted_in config s entry = accepted_values (placed_in config s entry)

-- the steps of records that follow one another, in their places
abbrev pub all_placed_in : Config → Situation → List Record → List PlacedStep
all_placed_in config s [] = []
all_placed_in config s (entry ∷ entries) =
    placed_in config s entry ++ option_map_or (λ t. all_placed_in config t entries)
    (after_record config s entry) []

-- a point in the middle of a record's steps
pub record Stage : Type 0 where
  pub situation : Situation
  pub left : List Task

-- the stage after these steps, if they are right; more may come after them
abbrev pub stage_after : Config → Stage → List Step → Option Stage
stage_after config stage [] = Some stage
stage_after config stage (step ∷ steps) =
    let now_due = due (may_run_in stage.situation) stage.left in
    let placed = placed_step_in config stage.situation (first_due now_due) step in
    let rest = stage_after config (record {
      situation = after_step config stage.situation placed.task step placed.effect;
      left = left_after now_due;
    }) steps in
    if is_right config placed then rest else None
