-- Steps in two parts.
use Rattle.std.proofs.Common.{inr, inl, ◌≡◌, refl, ap, sym, true≢false, List, [], ◌∷◌, ◌++◌, Some, is_some}
use Rattle.std.proofs.lemmas.Bool.{cases_Bool}
use Rattle.std.specs.Option.{option_and_then}
use Rattle.audit_model.specs.Changes.{after_step}
use Rattle.audit_model.specs.Follows.{placed_step_in, after_steps}
use Rattle.audit_model.specs.Places.{due, first_due, left_after}
use Rattle.audit_model.specs.Situation.{may_run_in}
use Rattle.audit_model.specs.Steps.{PlacedStep, is_right}
use Rattle.audit_model.specs.declared.config.Config.{Config}
use Rattle.audit_model.specs.declared.transcript.Step.{Step}
use Rattle.audit_laws.specs.Placing.{placed_steps_in, Stage, stage_after}
use Rattle.audit_laws.specs.Laws.{StepsInParts}

module _ (config : Config) where
  abbrev placed_at : Stage → Step → PlacedStep
  placed_at stage step = placed_step_in config stage.situation (first_due (due (may_run_in stage.situation) stage.left)) step

  abbrev next_stage : Stage → Step → Stage
  next_stage stage step =
      record {
        situation = after_step config stage.situation (placed_at stage step).task step (placed_at stage step).effect;
        left = left_after (due (may_run_in stage.situation) stage.left);
      }

  stages-in_parts : (front rest : List Step) (stage : Stage)
      → stage_after config stage (front ++ rest) ≡ option_and_then (λ reached. stage_after config reached rest) (stage_after config stage front)
  stages-in_parts [] rest stage = refl
  stages-in_parts (step ∷ front) rest stage =
      elim (cases_Bool (is_right config (placed_at stage step))) [ inl e ↦ rw e (stages-in_parts front rest (next_stage stage step)) | inr e ↦ rw e ]

  steps-in_parts : (front rest : List Step) (stage : Stage)
      → after_steps config stage.situation stage.left (front ++ rest) ≡ option_and_then (λ reached. after_steps config reached.situation reached.left rest) (stage_after config stage front)
  steps-in_parts [] rest stage = refl
  steps-in_parts (step ∷ front) rest stage =
      elim (cases_Bool (is_right config (placed_at stage step))) [ inl e ↦ rw e (steps-in_parts front rest (next_stage stage step)) | inr e ↦ rw e ]

  -- where a stage is reached, the rest reaches it from the next one
  pub some_rest : (step : Step) (front : List Step) (stage reached : Stage) → stage_after config stage (step ∷ front) ≡ Some reached → stage_after config (next_stage stage step) front ≡ Some reached
  some_rest step front stage reached e = elim (cases_Bool (is_right config (placed_at stage step))) [ inl is ↦ rw is at e | inr is ↦ absurd (true≢false (sym (ap is_some (rw is at e)))) ]

  places-in_parts : (front rest : List Step) (stage reached : Stage) → stage_after config stage front ≡ Some reached
      → placed_steps_in config stage.situation stage.left (front ++ rest) ≡ placed_steps_in config stage.situation stage.left front ++ placed_steps_in config reached.situation reached.left rest
  places-in_parts [] rest stage reached e =
      let is : stage ≡ reached = cc in ap (λ (x : Stage). placed_steps_in config x.situation x.left rest) is
  places-in_parts (step ∷ front) rest stage reached e =
      let next = next_stage stage step in
      ap (λ xs. placed_at stage step ∷ xs) (places-in_parts front rest next reached (some_rest step front stage reached e))

pub steps_in_parts : StepsInParts
steps_in_parts =
    record {
      stages = λ config stage front rest. stages-in_parts config front rest stage;
      records = λ config stage front rest. steps-in_parts config front rest stage;
      places = λ config stage reached front rest e. places-in_parts config front rest stage reached e;
    }
