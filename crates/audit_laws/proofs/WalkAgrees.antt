-- Steps, records and transcripts agree.
use Rattle.std.proofs.Common.{⊎_elim, ◌≡◌, refl, ap, ◌∙◌, sym, ℕ, true, false, true≢false, ◌&&◌, cond, List, [], ◌∷◌, Option, Some, None}
use Rattle.std.specs.List.{list_all}
use Rattle.std.proofs.Math.Path.{fun_ext}
use Rattle.audit_model.specs.Bytewise.{is_empty}
use Rattle.audit_model.specs.Changes.{after_step}
use Rattle.audit_model.specs.Follows.{placed_step_in, after_steps}
use Rattle.audit_model.specs.History.{History}
use Rattle.audit_model.specs.Places.{due, first_due, left_after, step_happens, placed_step, Walk, walk}
use Rattle.audit_model.specs.Situation.{Situation, may_run_in}
use Rattle.audit_model.specs.Steps.{Task, PlacedStep, is_right}
use Rattle.audit_model.specs.Stream.{may_run}
use Rattle.audit_model.specs.Summary.{situation_of}
use Rattle.audit_model.specs.declared.config.Config.{Config}
use Rattle.audit_model.specs.declared.transcript.Step.{Step}
use Rattle.audit_laws.specs.Placing.{placed_steps_in}
use Rattle.audit_laws.proofs.Connections.{ready-same}
use Rattle.audit_laws.proofs.Sound.{Sound}
use Rattle.audit_laws.proofs.InOrder.{InOrder, RunsFirst, due-in_order, due-runs}
use Rattle.audit_laws.proofs.PlacedStepsAgree.{Next, right-same, next}
use Rattle.std.proofs.lemmas.Bool.{cases_Bool}

abbrev pub outcome_of : Config → ℕ → Walk → Option Situation
outcome_of config made w = cond (list_all (is_right config) w.placed_steps && is_empty w.left) (Some (situation_of config made w.after)) None

pub record Agrees (config : Config) (made : ℕ) (past : History) (tasks : List Task) (steps : List Step) : Type 0 where
  pub is : after_steps config (situation_of config made past) tasks steps ≡ outcome_of config made (walk config made past tasks steps)
  pub sound : list_all (is_right config) (walk config made past tasks steps).placed_steps ≡ true → Sound (walk config made past tasks steps).after
  pub placed : list_all (is_right config) (walk config made past tasks steps).placed_steps ≡ true
      → (walk config made past tasks steps).placed_steps ≡ placed_steps_in config (situation_of config made past) tasks steps

pub ready_tests : (config : Config) (made : ℕ) (past : History) → may_run_in (situation_of config made past) ≡ (λ c. may_run c past)
ready_tests config made past = fun_ext (λ c. sym (ready-same config made past c))

module _ (config : Config) (made : ℕ) (past : History) (step : Step) (steps : List Step) where
  abbrev s : Situation
  s = situation_of config made past

  -- both sides of a step, for what is due
  abbrev after_due : List Task → Option Situation
  after_due now_due =
      let placed = placed_step_in config s (first_due now_due) step in
      let rest = after_steps config (after_step config s placed.task step placed.effect) (left_after now_due) steps in cond (is_right config placed) rest None

  abbrev walk_due : List Task → Walk
  walk_due now_due =
      let placed = placed_step config made past (first_due now_due) step in
      let rest = walk config made (step_happens placed.task step placed.effect ∷ past) (left_after now_due) steps in
      record { placed_steps = placed ∷ rest.placed_steps; left = rest.left; after = rest.after }

  abbrev placed_due : List Task → List PlacedStep
  placed_due now_due =
      let placed = placed_step_in config s (first_due now_due) step in
      placed ∷ placed_steps_in config (after_step config s placed.task step placed.effect) (left_after now_due) steps

  record DueAgrees (now_due : List Task) : Type 0 where
    due_is : after_due now_due ≡ outcome_of config made (walk_due now_due)
    due_sound : list_all (is_right config) (walk_due now_due).placed_steps ≡ true → Sound (walk_due now_due).after
    due_placed : list_all (is_right config) (walk_due now_due).placed_steps ≡ true → (walk_due now_due).placed_steps ≡ placed_due now_due

  module _ (h : Sound past) (ih : (past' : History) (tasks : List Task) → Sound past' → InOrder past' tasks → Agrees config made past' tasks steps) where
    module _ (task : Task) (tasks : List Task) (order : InOrder past (task ∷ tasks)) (runs : RunsFirst (λ c. may_run c past) (task ∷ tasks)) where
      abbrev outer : PlacedStep
      outer = placed_step config made past (Some task) step

      abbrev inner : PlacedStep
      inner = placed_step_in config s (Some task) step

      abbrev then' : History
      then' = step_happens outer.task step outer.effect ∷ past

      abbrev rest : Walk
      rest = walk config made then' (left_after (task ∷ tasks)) steps

      wrong_due : is_right config outer ≡ false → DueAgrees (task ∷ tasks)
      wrong_due e =
          record {
            due_is =
                ap (λ b. cond b (after_steps config (after_step config s inner.task step inner.effect) (left_after (task ∷ tasks)) steps) None) (sym (right-same config made past h task tasks order runs step) ∙ e)
                ∙ sym (ap (λ b. cond ((b && list_all (is_right config) rest.placed_steps) && is_empty rest.left) (Some (situation_of config made rest.after)) None) e);
            due_sound = λ k. absurd (true≢false (sym k ∙ ap (λ b. b && list_all (is_right config) rest.placed_steps) e));
            due_placed = λ k. absurd (true≢false (sym k ∙ ap (λ b. b && list_all (is_right config) rest.placed_steps) e));
          }

      right_due : is_right config outer ≡ true → DueAgrees (task ∷ tasks)
      right_due e =
          let on : Next config made past h task tasks order runs step = next config made past h task tasks order runs step e in
          let more : Agrees config made then' (left_after (task ∷ tasks)) steps = ih then' (left_after (task ∷ tasks)) on.sound on.left in
          record {
            due_is =
                ap (λ b. cond b (after_steps config (after_step config s inner.task step inner.effect) (left_after (task ∷ tasks)) steps) None) (sym (right-same config made past h task tasks order runs step) ∙ e)
                ∙ ap (λ (x : PlacedStep). after_steps config (after_step config s x.task step x.effect) (left_after (task ∷ tasks)) steps) (sym on.same)
                ∙ ap (λ t. after_steps config t (left_after (task ∷ tasks)) steps) (sym on.situation)
                ∙ more.is
                ∙ sym (ap (λ b. cond ((b && list_all (is_right config) rest.placed_steps) && is_empty rest.left) (Some (situation_of config made rest.after)) None) e);
            due_sound = λ k. more.sound (sym (ap (λ b. b && list_all (is_right config) rest.placed_steps) e) ∙ k);
            due_placed = λ k.
                ap (λ xs. outer ∷ xs) (more.placed (sym (ap (λ b. b && list_all (is_right config) rest.placed_steps) e) ∙ k))
                ∙ ap (λ t. outer ∷ placed_steps_in config t (left_after (task ∷ tasks)) steps) on.situation
                ∙ ap (λ (x : PlacedStep). x ∷ placed_steps_in config (after_step config s x.task step x.effect) (left_after (task ∷ tasks)) steps) on.same;
          }

      one_due : DueAgrees (task ∷ tasks)
      one_due = ⊎_elim right_due wrong_due (cases_Bool (is_right config outer))

    none_due : DueAgrees []
    none_due = record { due_is = refl; due_sound = λ k. absurd (true≢false (sym k)); due_placed = λ k. absurd (true≢false (sym k)) }

    due_agrees : (now_due : List Task) → InOrder past now_due → RunsFirst (λ c. may_run c past) now_due → DueAgrees now_due
    due_agrees [] order runs = none_due
    due_agrees (task ∷ tasks) order runs = one_due task tasks order runs

    step_agrees : (tasks : List Task) → InOrder past tasks → Agrees config made past tasks (step ∷ steps)
    step_agrees tasks order =
        let d : DueAgrees (due (λ c. may_run c past) tasks) = due_agrees (due (λ c. may_run c past) tasks) (due-in_order past (λ c. may_run c past) tasks order) (due-runs (λ c. may_run c past) tasks) in
        record { is = ap (λ r. after_due (due r tasks)) (ready_tests config made past) ∙ d.due_is; sound = d.due_sound; placed = λ k. d.due_placed k ∙ ap (λ r. placed_due (due r tasks)) (sym (ready_tests config made past)) }

pub walk_agrees : (config : Config) (made : ℕ) (steps : List Step) (past : History) (tasks : List Task) → Sound past → InOrder past tasks → Agrees config made past tasks steps
walk_agrees config made [] past tasks h order =
    record {
      is = ap (λ r. cond (is_empty (due r tasks)) (Some (situation_of config made past)) None) (ready_tests config made past);
      sound = λ e. h;
      placed = λ e. refl;
    }
walk_agrees config made (step ∷ steps) past tasks h order = step_agrees config made past step steps h (walk_agrees config made steps) tasks order
