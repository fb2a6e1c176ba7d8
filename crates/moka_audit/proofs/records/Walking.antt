-- Steps judged one after another.
use Rattle.std.proofs.Common.{◌≡◌, refl, sym, ap, ◌∙◌, subst, ℕ, zero, suc, leb, arith, drop-cons, ◌+◌, ◌<◌, Bool, true, false, ◌&&◌, List, [], ◌∷◌, map, length, drop, get_or, Option, Some, None, if◌then◌else◌, true≢false}
use Rattle.std.proofs.lemmas.Bool.Decides.{nat_tests}
use Rattle.audit_model.specs.Bytewise.{is_empty}
use Rattle.audit_model.specs.declared.event.Outcome.{Outcome}
use Rattle.std.specs.Option.{option_map}
use Rattle.audit_model.specs.Changes.{after_step}
use Rattle.audit_model.specs.Follows.{placed_step_in}
use Rattle.audit_model.specs.Places.{due, first_due, left_after}
use Rattle.audit_model.specs.Situation.{Situation, may_run_in}
use Rattle.audit_model.specs.Steps.{Task, Store, is_right}
use Rattle.audit_model.specs.declared.config.Config.{Config}
use Rattle.audit_model.specs.declared.transcript.Step.{Step}
use Rattle.audit_situation.specs.Held.Known.{KeyPart, agrees_with, with_value}
use Rattle.moka_audit.specs.Steps.Judging.{IsJudged}
use Rattle.moka_audit.specs.Records.Auditing.{Reached, Reaches, audited_steps}
use Rattle.moka_audit.specs.Records.Tidy.{is_tidy}
use Rattle.moka_audit.proofs.records.Tidying.{step-tidy}

module _ (config : Config) (parts more : List KeyPart) (s t : Situation) (tasks : List Task) (task : Option Task) (step : Step) (rest : List Step) where
  abbrev now_due : List Task
  now_due = due (may_run_in s) tasks

  -- a right step leads on
  pub walk-on : first_due now_due ≡ task → IsJudged config s parts task step (placed_step_in config s task step) true t more
      → audited_steps config parts s tasks (step ∷ rest) ≡ audited_steps config more t (left_after now_due) rest
  walk-on e j = ap go e ∙ ap (λ b. if b then audited_steps config (with_value parts (placed_step_in config s task step).effect.value) (after_step config s task step (placed_step_in config s task step).effect) (left_after now_due) rest else None) (sym j.right)
      ∙ ap (λ ps. audited_steps config ps (after_step config s task step (placed_step_in config s task step).effect) (left_after now_due) rest) (sym (j.kept refl))
      ∙ ap (λ u. audited_steps config more u (left_after now_due) rest) (sym (j.left refl))
    where
      go : Option Task → Option Reached
      go o =
          let placed = placed_step_in config s o step in
          if is_right config placed && agrees_with parts placed.effect.value then audited_steps config (with_value parts placed.effect.value) (after_step config s placed.task step placed.effect) (left_after now_due) rest else None

  -- a wrong one leads nowhere
  pub walk-off : first_due now_due ≡ task → IsJudged config s parts task step (placed_step_in config s task step) false t more → audited_steps config parts s tasks (step ∷ rest) ≡ None
  walk-off e j = ap go e ∙ ap (λ b. if b then audited_steps config (with_value parts (placed_step_in config s task step).effect.value) (after_step config s task step (placed_step_in config s task step).effect) (left_after now_due) rest else None) (sym j.right)
    where
      go : Option Task → Option Reached
      go o =
          let placed = placed_step_in config s o step in
          if is_right config placed && agrees_with parts placed.effect.value then audited_steps config (with_value parts placed.effect.value) (after_step config s placed.task step placed.effect) (left_after now_due) rest else None

  pub walk-tidy : IsJudged config s parts task step (placed_step_in config s task step) true t more → is_tidy s ≡ true → is_tidy t ≡ true
  walk-tidy j tidy = ap is_tidy (j.left refl) ∙ step-tidy config s task step (placed_step_in config s task step).effect tidy

-- behind the last place
pub end-is : {X : Type 0} (f : X → Task) (xs : List X) (at : ℕ) → leb (length xs) at ≡ is_empty (map f (drop at xs))
end-is f [] zero = refl
end-is f [] (suc at) = nothing-left at
  where
    nothing-left : (n : ℕ) → leb 0 (suc n) ≡ true
    nothing-left n = grind (arith, nat_tests)
end-is f (x ∷ xs) zero = one-left (length xs)
  where
    one-left : (n : ℕ) → leb (suc n) 0 ≡ false
    one-left n = grind (arith, nat_tests)
end-is f (x ∷ xs) (suc at) = both-less (length xs) at ∙ end-is f xs at
  where
    both-less : (m n : ℕ) → leb (suc m) (suc n) ≡ leb m n
    both-less m n = grind (arith, nat_tests)

pub reaches-end : (b : Bool) (t : Situation) (parts : List KeyPart) (o : Option Reached) → o ≡ (if b then Some (record { situation = t; parts = parts }) else None) → Reaches b t parts o
reaches-end b t parts o e = grind (arith, e)

-- a right own step of an answer leads on
pub store-on : (config : Config) (parts more : List KeyPart) (s t : Situation) (key : Option (List ℕ)) (outcome : Outcome) (tasks : List Task) (step : Step) (rest : List Step)
    → IsJudged config s parts (Some (Store key outcome)) step (placed_step_in config s (Some (Store key outcome)) step) true t more
    → audited_steps config parts s (Store key outcome ∷ tasks) (step ∷ rest) ≡ audited_steps config more t tasks rest
store-on config parts more s t key outcome tasks step rest j = walk-on config parts more s t (Store key outcome ∷ tasks) (Some (Store key outcome)) step rest refl j

-- what is left from a place on
pub drop-next : {X : Type 0} (xs : List X) (i : ℕ) (d : X) → i < length xs → d ≡ get_or xs i d → drop i xs ≡ d ∷ drop (i + 1) xs
drop-next xs i d lt at = drop-cons xs i d lt ∙ ap (λ n. get_or xs i d ∷ drop n xs) (one-more i) ∙ ap (λ x. x ∷ drop (i + 1) xs) (sym at)
  where
    one-more : (n : ℕ) → suc n ≡ n + 1
    one-more n = omega arith
