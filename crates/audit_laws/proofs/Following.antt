-- Records that follow one another, in two parts, and what they keep.
use Rattle.std.proofs.Common.{◌≡◌, refl, ap, subst, sym, Bool, true, false, true≢false, cond, List, [], ◌∷◌, ◌++◌, Option, Some, None, is_some}
use Rattle.std.specs.Option.{option_and_then}
use Rattle.audit_model.specs.Bytewise.{is_empty}
use Rattle.audit_model.specs.Changes.{after_step}
use Rattle.audit_model.specs.Places.{due, first_due, left_after, steps_of}
use Rattle.audit_model.specs.Situation.{Situation, may_run_in}
use Rattle.audit_model.specs.Steps.{Task, is_right}
use Rattle.audit_model.specs.Follows.{tasks_in, after_event, placed_step_in, after_steps, after_record, after_records}
use Rattle.audit_model.specs.declared.config.Config.{Config}
use Rattle.audit_model.specs.declared.event.Event.{Event}
use Rattle.audit_model.specs.declared.transcript.Record.{Record}
use Rattle.audit_model.specs.declared.transcript.Step.{Step}

in_two : (config : Config) (xs ys : List Record)
    → ((s : Situation) → after_records config s (xs ++ ys) ≡ option_and_then (λ t. after_records config t ys) (after_records config s xs))
    → (o : Option Situation)
    → option_and_then (λ t. after_records config t (xs ++ ys)) o ≡ option_and_then (λ t. after_records config t ys) (option_and_then (λ t. after_records config t xs) o)
in_two config xs ys rest None = refl
in_two config xs ys rest (Some s) = rest s

pub after_records-append : (config : Config) (s : Situation) (xs ys : List Record)
    → after_records config s (xs ++ ys) ≡ option_and_then (λ t. after_records config t ys) (after_records config s xs)
after_records-append config s [] ys = refl
after_records-append config s (x ∷ xs) ys = in_two config xs ys (λ t. after_records-append config t xs ys) (after_record config s x)

-- a test that was passed, and what stands behind it
pub record Passed (b : Bool) (o : Option Situation) (t : Situation) : Type 0 where
  pub test : b ≡ true
  pub rest : o ≡ Some t

pub passed : (b : Bool) (o : Option Situation) (t : Situation) → cond b o None ≡ Some t → Passed b o t
passed true o t e = record { test = refl; rest = e }
passed false o t e = absurd (true≢false (sym (ap is_some e)))

-- what each event and each right step keeps, records that follow keep
module _ (config : Config) (P : Situation → Type 0) (event : (e : Event) (s : Situation) → P s → P (after_event e s))
    (step : (s : Situation) (task : Option Task) (step : Step) → P s → is_right config (placed_step_in config s task step) ≡ true → P (after_step config s task step (placed_step_in config s task step).effect)) where
  steps-keep : (steps : List Step) (s t : Situation) (tasks : List Task) → after_steps config s tasks steps ≡ Some t → P s → P t
  steps-keep [] s t tasks e p =
      let end : Passed (is_empty (due (may_run_in s) tasks)) (Some s) t = passed (is_empty (due (may_run_in s) tasks)) (Some s) t e in
      let is_end = end.rest in
      let is : s ≡ t = cc in
      subst P is p
  steps-keep (x ∷ steps) s t tasks e p =
      let now_due = due (may_run_in s) tasks in
      let placed = placed_step_in config s (first_due now_due) x in
      let next = after_step config s placed.task x placed.effect in
      let on : Passed (is_right config placed) (after_steps config next (left_after now_due) steps) t = passed (is_right config placed) (after_steps config next (left_after now_due) steps) t e in
      steps-keep steps next t (left_after now_due) on.rest (step s (first_due now_due) x p on.test)

  record-keeps : (entry : Record) (s t : Situation) → after_record config s entry ≡ Some t → P s → P t
  record-keeps entry s t e p =
      steps-keep (steps_of entry) (after_event entry.event s) t (tasks_in s entry.event) (passed _ (after_steps config (after_event entry.event s) (tasks_in s entry.event) (steps_of entry)) t e).rest (event entry.event s p)

  pub records-keep : (entries : List Record) (s t : Situation) → after_records config s entries ≡ Some t → P s → P t
  records-keep [] s t e p = let is : s ≡ t = cc in subst P is p
  records-keep (entry ∷ entries) s t e p = go (after_record config s entry) refl e (λ u. records-keep entries u t)
    where
      go : (o : Option Situation) → after_record config s entry ≡ o → option_and_then (λ u. after_records config u entries) o ≡ Some t
          → ((u : Situation) → after_records config u entries ≡ Some t → P u → P t) → P t
      go None k e rest = absurd (true≢false (sym (ap is_some e)))
      go (Some u) k e rest = rest u e (record-keeps entry s u k p)
