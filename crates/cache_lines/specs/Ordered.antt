-- The order of use of keys, step by step.
use Rattle.std.specs.Prelude.{ℕ, suc, Bool, List, [], ◌∷◌, if◌then◌else◌}
use Rattle.audit_model.specs.Changes.{after_step}
use Rattle.audit_model.specs.Follows.{placed_step_in}
use Rattle.audit_model.specs.Grammar.{reading}
use Rattle.audit_model.specs.Places.{due, first_due, left_after}
use Rattle.audit_model.specs.Situation.{Situation, HeldValue, may_run_in}
use Rattle.audit_model.specs.Steps.{Task}
use Rattle.audit_model.specs.declared.config.Config.{Config}
use Rattle.audit_model.specs.declared.transcript.Step.{Step}
use Rattle.cache_commands.specs.Order.{Order, Settled, Unknown, AgreesWith, order_by}
use Rattle.cache_commands.specs.Recency.{AreKeysOf, IsPlainLru}

-- a step ran; nothing is known behind one that is held back
abbrev pub order_behind_step : Config → ℕ → Order → Step → Order
order_behind_step config n order step =
    if step.held then Unknown else order_by n (reading config step.line) order

-- these steps ran
abbrev pub order_behind : Config → ℕ → Order → List Step → Order
order_behind config n order [] = order
order_behind config n order (step ∷ steps) =
    order_behind config n (order_behind_step config n order step) steps

-- if a `SYNC` ran last, the values held have exactly the keys that are known
abbrev pub HasKeys : Order → List HeldValue → Type 0
HasKeys (Settled keys) held = AreKeysOf held keys
HasKeys order held = Unit {0}

-- this is so after each of these steps
abbrev pub HaveKeys : Config → ℕ → Order → Situation → List Task → List Step → Type 0
HaveKeys config n order s tasks [] = Unit {0}
HaveKeys config n order s tasks (step ∷ steps) =
    let now_due = due (may_run_in s) tasks in
    let placed = placed_step_in config s (first_due now_due) step in
    let t = after_step config s placed.task step placed.effect in
    HasKeys (order_behind_step config n order step) t.held
    × HaveKeys config n (order_behind_step config n order step) t (left_after now_due) steps

-- If a store under LRU agreed with what was known, it agrees with what is known after these steps, and after each of them exactly the keys
-- that are known are held.
abbrev pub OrdersSteps : Config → (old new : Bool → List (List ℕ) → Type 0) → Situation → List Task
    → List Step → Type 0
OrdersSteps config old new s tasks steps =
    (places : ℕ) (order : Order) → IsPlainLru config places → AgreesWith old places order
    → AgreesWith new places (order_behind config (suc places) order steps)
    × HaveKeys config (suc places) order s tasks steps
