-- Where a namespace has one part, each accepted value is of that one.
use Rattle.std.proofs.Common.{◌≡◌, refl, ap, ◌∙◌, sym, subst, ℕ, ◌<◌, arith, Bool, true, List, [], ◌∷◌, ◌++◌, Option, Some, None, is_some, nat_lt}
use Rattle.std.specs.List.{list_all}
use Rattle.std.specs.Option.{option_and_then, option_map_or}
use Rattle.std.proofs.lemmas.Bool.{and_parts, and_from, eq-eqb, ltb-true}
use Rattle.std.proofs.lemmas.List.Elements.{filter_map-append}
use Rattle.std.proofs.lemmas.List.Folds.{list_all-append}
use Rattle.std.proofs.lemmas.Option.{none-some, same_Some}
use Rattle.audit_model.specs.Changes.{after_step}
use Rattle.audit_model.specs.Follows.{after_steps, after_event, tasks_in, placed_step_in, after_record, after_records}
use Rattle.audit_model.specs.History.{Value, part_count}
use Rattle.audit_model.specs.Obeys.{accepted_values}
use Rattle.audit_model.specs.Places.{due, first_due, left_after, placed_steps, steps_of}
use Rattle.audit_model.specs.Replies.{Offer, offer_of, value_from}
use Rattle.audit_model.specs.Situation.{Situation, empty_situation, may_run_in}
use Rattle.audit_model.specs.Steps.{Task, PlacedStep, has_right_acceptance, is_right}
use Rattle.audit_model.specs.declared.config.Config.{Config}
use Rattle.audit_model.specs.declared.transcript.Accepted.{Accepted}
use Rattle.audit_model.specs.declared.transcript.Record.{Record}
use Rattle.audit_model.specs.declared.transcript.Step.{Step}
use Rattle.audit_laws.specs.Laws.{OnePartObeys}
use Rattle.audit_laws.specs.Leading.{is_parted}
use Rattle.audit_laws.specs.Placing.{placed_steps_in, placed_in, all_placed_in}
use Rattle.audit_laws.proofs.Following.{passed}
use Rattle.audit_laws.proofs.Journals.{parts-by, places_agree}
use Rattle.audit_laws.proofs.PlacedStepsAgree.{parts-of}
use Rattle.audit_laws.proofs.TranscriptsAgree.{agrees}

abbrev is_first : Value → Bool
is_first v = is_parted (λ key. 0) v

value-part : (config : Config) (now part : ℕ) (offer : Option Offer) (v : Value) → value_from config now offer (Some part) ≡ Some v → v.part ≡ part
value-part config now part None v e = absurd (none-some v e)
value-part config now part (Some offer) v e = sym (ap (λ (x : Value). x.part) (same_Some _ v e))

module _ (config : Config) (one : part_count config ≡ 1) where
  below-one : (part : ℕ) → nat_lt part (part_count config) ≡ true → part ≡ 0
  below-one part e = let lt : part < 1 = ltb-true part 1 (subst (λ n. nat_lt part n ≡ true) one e) in omega arith

  -- the value of a right step
  value-first : (s : Situation) (task : Option Task) (step : Step) (accepted : Option Accepted)
      → has_right_acceptance config (placed_step_in config s task (record step { accepted = accepted })) ≡ true
      → (v : Value) → (placed_step_in config s task (record step { accepted = accepted })).effect.value ≡ Some v → is_first v ≡ true
  value-first s task step None right v e = absurd (none-some v e)
  value-first s task step (Some a) right v e =
      let placed = placed_step_in config s task (record step { accepted = Some a }) in
      eq-eqb v.part 0 (value-part config placed.seen.now a.part (offer_of config placed.seen placed.effect.action) v e ∙ below-one a.part (and_parts (is_some (offer_of config placed.seen placed.effect.action)) _ right).1)

  -- one step, whose value is as this option says
  step-first : (placed : PlacedStep) (o : Option Value) → ((v : Value) → o ≡ Some v → is_first v ≡ true)
      → list_all is_first (accepted_values (record placed { effect = record placed.effect { value = o } } ∷ [])) ≡ true
  step-first placed None f = refl
  step-first placed (Some v) f = and_from (is_first v) true (f v refl) refl

  both-first : (xs ys : List PlacedStep) → list_all is_first (accepted_values xs) ≡ true → list_all is_first (accepted_values ys) ≡ true → list_all is_first (accepted_values (xs ++ ys)) ≡ true
  both-first xs ys h k =
      ap (list_all is_first) (filter_map-append (λ (placed : PlacedStep). placed.effect.value) xs ys)
      ∙ list_all-append is_first (accepted_values xs) (accepted_values ys) ∙ and_from _ _ h k

  steps-first : (s t : Situation) (tasks : List Task) (steps : List Step) → after_steps config s tasks steps ≡ Some t → list_all is_first (accepted_values (placed_steps_in config s tasks steps)) ≡ true
  steps-first s t tasks [] e = refl
  steps-first s t tasks (step ∷ steps) e =
      let now_due = due (may_run_in s) tasks in
      let placed = placed_step_in config s (first_due now_due) step in
      let p = passed (is_right config placed) _ t e in
      both-first (placed ∷ []) (placed_steps_in config (after_step config s placed.task step placed.effect) (left_after now_due) steps)
      (step-first placed placed.effect.value (value-first s (first_due now_due) step step.accepted (parts-of config placed p.test).accepted))
      (steps-first (after_step config s placed.task step placed.effect) t (left_after now_due) steps p.rest)

  record-first : (s t : Situation) (entry : Record) → after_record config s entry ≡ Some t → list_all is_first (accepted_values (placed_in config s entry)) ≡ true
  record-first s t entry e = steps-first (after_event entry.event s) t (tasks_in s entry.event) (steps_of entry) (passed _ _ t e).rest

  records-first : (s t : Situation) (entries : List Record) → after_records config s entries ≡ Some t → list_all is_first (accepted_values (all_placed_in config s entries)) ≡ true
  records-first s t [] e = refl
  records-first s t (entry ∷ entries) e = go (λ u h. records-first u t entries h) (after_record config s entry) refl e
    where
      go : ((u : Situation) → after_records config u entries ≡ Some t → list_all is_first (accepted_values (all_placed_in config u entries)) ≡ true)
          → (o : Option Situation) → after_record config s entry ≡ o → option_and_then (λ u. after_records config u entries) o ≡ Some t
          → list_all is_first (accepted_values (placed_in config s entry ++ option_map_or (λ u. all_placed_in config u entries) o [])) ≡ true
      go later None same h = absurd (none-some t h)
      go later (Some u) same h = both-first (placed_in config s entry) (all_placed_in config u entries) (record-first s u entry same) (later u h)

pub one-part-obeys : OnePartObeys
one-part-obeys config transcript s one leads =
    let some = ap is_some leads in
    let firsts = ap (λ steps. list_all is_first (accepted_values steps)) (places_agree config transcript some) ∙ records-first config one (empty_situation transcript.made.nanos) s transcript.records leads in
    (agrees config transcript).1 (parts-by (λ key. 0) (accepted_values (placed_steps config transcript)) firsts, some)
