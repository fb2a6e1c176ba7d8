-- Steps, one after another, and where they lead.
use Rattle.std.specs.Prelude.{◌≡◌, ℕ, suc, List, [], ◌∷◌, Option, IsTrue}
use Rattle.audit_model.specs.Changes.{after_step}
use Rattle.audit_model.specs.Follows.{placed_step_in}
use Rattle.audit_model.specs.History.{Effect}
use Rattle.audit_model.specs.Places.{due, first_due, left_after}
use Rattle.audit_model.specs.Situation.{Situation, may_run_in}
use Rattle.audit_model.specs.Steps.{Task, is_right}
use Rattle.audit_model.specs.declared.config.Config.{Config}
use Rattle.audit_model.specs.declared.transcript.Step.{Step}
use Rattle.cache_commands.specs.Order.{Order, AgreesWith}
use Rattle.cache_commands.specs.Recency.{IsPlainLru}
use Rattle.cache_commands.specs.Values.{Values}
use Rattle.cache_lines.specs.Drawing.{Identifiers, StepDraws, identifiers_in}
use Rattle.cache_lines.specs.Lines.{has_its_part, is_timely_after}
use Rattle.cache_lines.specs.Making.{Making}
use Rattle.cache_lines.specs.Ordered.{HasKeys, order_behind_step}

-- where steps begin or end: the situation, the identifiers, and what is known of the order of use
pub record Point : Type 0 where
  pub situation : Situation
  pub drawn : Identifiers
  pub order : Order

abbrev pub point : Situation → Identifiers → Order → Point
point situation drawn order = record { situation = situation; drawn = drawn; order = order }

-- those of the tasks that are due in a situation
abbrev pub due_in : Situation → List Task → List Task
due_in s tasks = due (may_run_in s) tasks

-- what the step does, if this task is due
abbrev pub effect_for : Config → Situation → Option Task → Step → Effect
effect_for config s task step = (placed_step_in config s task step).effect

-- The step is right for this task, and leads from one point to the other; the value that it accepts, if any, is in the part of its key; a
-- `SYNC` leaves timely values; identifiers are drawn as it says; and under LRU over these places, if a `SYNC` ran last, exactly the keys
-- that are known are held.
pub record StepLeads (making : Making) (places : ℕ) (task : Option Task) (step : Step)
    (a b : Point) : Type 0 where
  pub right : IsTrue (is_right making.config (placed_step_in making.config a.situation task step))
  pub after : after_step making.config a.situation task step
      (effect_for making.config a.situation task step) ≡ b.situation
  pub parted : IsTrue
      (has_its_part making.part_of (effect_for making.config a.situation task step))
  pub timely : IsTrue (is_timely_after making.config making.made
      (effect_for making.config a.situation task step) b.situation)
  pub draws : StepDraws making.config step a.drawn b.drawn
  pub orders : order_behind_step making.config (suc places) a.order step ≡ b.order
  pub keys : IsPlainLru making.config places → HasKeys b.order b.situation.held

-- Each of these steps leads on from where the one before it led, for the task that is due first; the tasks that are left are due as those
-- that are given.
abbrev pub StepsLead : Making → ℕ → Point → List Task → List Step → Point → List Task → Type 0
StepsLead making places a tasks [] b left =
    (b ≡ a) × (due_in a.situation left ≡ due_in a.situation tasks)
StepsLead making places a tasks (step ∷ steps) c left =
    (b : Point) × StepLeads making places (first_due (due_in a.situation tasks)) step a b
    × StepsLead making places b (left_after (due_in a.situation tasks)) steps c left

-- under LRU over these places a store agrees with what is known of the order of use
abbrev pub AgreesOver : Config → ℕ → Values → Order → Type 0
AgreesOver config places v order = IsPlainLru config places → AgreesWith v.Used places order

-- If these tasks are due, these steps lead to this situation and to the tasks that are left, while a store changes from one to the other:
-- whatever is known of the order of use, if the store agrees with it, then it agrees with what is known after the steps.
abbrev pub TasksLead : Making → Situation → List Task → List Step → Situation → List Task
    → (old new : Values) → Type 0
TasksLead making s tasks steps t left old new =
    (places : ℕ) (order : Order) → AgreesOver making.config places old order
    → (behind : Order) × AgreesOver making.config places new behind
    × StepsLead making places (point s (identifiers_in old) order) tasks steps
    (point t (identifiers_in new) behind) left
