-- With no capacity nothing is told `Size`.
use Rattle.std.proofs.Common.{arith, ◌≡◌, refl, ap, ◌∙◌, sym, ℕ, Bool, true, false, true≢false, not, ◌&&◌, ◌||◌, List, [], ◌∷◌, ◌++◌, Option, Some, None, is_some}
use Rattle.std.specs.Prelude.{if◌then◌else◌}
use Rattle.std.specs.List.{list_all, find, flat_map}
use Rattle.std.specs.Option.{option_map, option_to_list, IfSome}
use Rattle.std.proofs.lemmas.Bool.{cond_both, and_parts, and_from, and_right, or_from}
use Rattle.std.proofs.lemmas.List.Folds.{list_all-append}
use Rattle.std.proofs.Math.Bool.{and-false}
use Rattle.audit_model.specs.Bytewise.{same, is_empty}
use Rattle.audit_model.specs.Commands.{Deed, deed_of, syncs, is_step_that}
use Rattle.audit_model.specs.History.{History, Value}
use Rattle.audit_model.specs.Notes.{same_cause, is_over, newcomer, candidates_of, is_true_cause, first_cause, is_told_first, is_true_note, first_with_key, are_true_notes}
use Rattle.audit_model.specs.Obeys.{has_right_own_value}
use Rattle.audit_model.specs.Places.{happening_of, tasks_of, steps_of, step_happens, left_after, due, first_due, placed_step, walk, placed_record, placed_records_after}
use Rattle.audit_model.specs.Seen.{was_over, candidate_of, step_tells_size}
use Rattle.audit_model.specs.Stream.{may_run}
use Rattle.audit_model.specs.Steps.{Task, has_right_notes}
use Rattle.audit_model.specs.Values.{accepts, held_values, without_key}
use Rattle.audit_model.specs.View.{Candidate}
use Rattle.audit_model.specs.declared.config.Config.{Config}
use Rattle.audit_model.specs.declared.event.Event.{Event}
use Rattle.audit_model.specs.declared.event.Event.TheVariants as event
use Rattle.audit_model.specs.declared.transcript.Note.{Note}
use Rattle.audit_model.specs.declared.transcript.Record.{Record}
use Rattle.audit_model.specs.declared.transcript.RemovalCause.{RemovalCause}
use Rattle.audit_model.specs.declared.transcript.RemovalCause.TheVariants.{Expired, Explicit, Replaced, Size}
use Rattle.audit_model.specs.declared.transcript.Step.{Step}
use Rattle.audit_laws.specs.Telling.{notes_of, none_with_size}
use Rattle.audit_laws.specs.Laws.{NothingToldSize}
use Rattle.audit_laws.proofs.Told.{Each, each-append, each-map, each-without_key}
use Rattle.audit_laws.proofs.TranscriptsAgree.{all-flat}
use Rattle.std.proofs.lemmas.Bool.Decides.{nat_tests}

-- ---- no part is ever over its share

pub not_over : (config : Config) → config.capacity ≡ None → (part : ℕ) (values : List Value) → is_over config part values ≡ false
not_over config e part values = ap (λ k. is_over (record config { capacity = k }) part values) e

never_was_over : (config : Config) → config.capacity ≡ None → (key : List ℕ) (part : ℕ) (past : History) → was_over config key part past ≡ false
never_was_over config e key part [] = refl
never_was_over config e key part (h ∷ past) =
    or_from (is_over config part (held_values (h ∷ past))) _ (not_over config e part (held_values (h ∷ past)))
    (and_right (not (accepts key h) && not (is_step_that syncs h) && not (step_tells_size part h past)) (was_over config key part past) (never_was_over config e key part past))

abbrev Calm : Candidate → Type 0
Calm c = c.evictable ≡ false

calm-held : (config : Config) → config.capacity ≡ None → (past : History) (now : ℕ) (vs : List Value) → Each (λ v. Calm (candidate_of config past now v)) vs
calm-held config e past now [] = tt
calm-held config e past now (v ∷ vs) = (never_was_over config e v.key v.part past, calm-held config e past now vs)

calm-new : (config : Config) (o : Option Value) → Each Calm (option_to_list (option_map (newcomer config) o))
calm-new config None = tt
calm-new config (Some v) = (refl, tt)

-- ---- true notes

found : (P : Candidate → Type 0) (p : Candidate → Bool) (cs : List Candidate) → Each P cs → IfSome (find p cs) P
found P p [] h = tt
found P p (c ∷ cs) (x, h) = let next = found P p cs h in grind (arith, nat_tests, next)

-- the first cause is none of size
first-other : (config : Config) (held : List Candidate) (deed : Deed) (c : Candidate) → same_cause Size (first_cause config held deed c) ≡ false
first-other config held deed c = grind arith

module _ (config : Config) (unlimited : config.capacity ≡ None) (held : List Candidate) (deed : Deed) where
  size-untrue : (c : Candidate) → Calm c → is_true_cause config held deed c Size ≡ false
  size-untrue c calm =
      ap (λ b. b || is_true_cause config held deed (record c { evictable = false }) Size) calm
      ∙ ap (λ b. is_some deed.value && b) (not_over config unlimited c.value.part _)
      ∙ and-false (is_some deed.value)

  abbrev judged : Note → RemovalCause → Candidate → Bool
  judged note cause c = if is_told_first deed c then same_cause cause (first_cause config held deed c) else is_true_cause config held deed c cause

  judged-other : (note : Note) (cause : RemovalCause) (c : Candidate) → Calm c → judged note cause c ≡ true → not (same_cause cause Size) ≡ true
  judged-other note Expired c calm e = refl
  judged-other note Explicit c calm e = refl
  judged-other note Replaced c calm e = refl
  judged-other note Size c calm e = absurd (true≢false (sym e ∙ (cond_both (is_told_first deed c) _ _ (λ z. z ≡ false) (λ _. first-other config held deed c) (λ _. size-untrue c calm))))

  note-other : (note : Note) (o : Option Candidate) → IfSome o Calm → is_true_note config held deed note o ≡ true → not (same_cause note.cause Size) ≡ true
  note-other note None h e = absurd (true≢false (sym e))
  note-other note (Some c) h e = judged-other note note.cause c h (and_parts (same note.value c.value.bytes) (judged note note.cause c) e).1

  notes-other : (notes : List Note) (cs : List Candidate) → Each Calm cs → are_true_notes config held deed cs notes ≡ true → none_with_size notes ≡ true
  notes-other [] cs h e = refl
  notes-other (note ∷ notes) cs h e =
      let p = and_parts (is_true_note config held deed note (first_with_key note.key cs)) _ e in
      and_from (not (same_cause note.cause Size)) (none_with_size notes)
      (note-other note (first_with_key note.key cs) (found Calm (λ c. same note.key c.value.key) cs h) p.0)
      (notes-other notes (without_key (λ c. c.value.key) note.key cs) (each-without_key Calm (λ c. c.value.key) note.key cs h) p.1)

-- ---- steps, records and transcripts

module _ (config : Config) (unlimited : config.capacity ≡ None) (made : ℕ) where
  step-other : (past : History) (task : Option Task) (step : Step) → has_right_notes config (placed_step config made past task step) ≡ true → none_with_size step.notices ≡ true
  step-other past task step e =
      let placed = placed_step config made past task step in
      notes-other config unlimited placed.seen.held (deed_of placed.effect) step.notices (candidates_of config placed.seen.held (deed_of placed.effect))
      (each-append Calm placed.seen.held _ (each-map Calm (candidate_of config past placed.seen.now) (held_values past) (calm-held config unlimited past placed.seen.now (held_values past))) (calm-new config placed.effect.value)) e

  walk-other : (steps : List Step) (past : History) (tasks : List Task) → list_all (has_right_notes config) (walk config made past tasks steps).placed_steps ≡ true
      → list_all (λ step. none_with_size step.notices) steps ≡ true
  walk-other [] past tasks e = refl
  walk-other (step ∷ steps) past tasks e =
      let now_due = due (λ conn. may_run conn past) tasks in
      let placed = placed_step config made past (first_due now_due) step in
      let p = and_parts (has_right_notes config placed) (list_all (has_right_notes config) (walk config made (step_happens placed.task step placed.effect ∷ past) (left_after now_due) steps).placed_steps) e in
      and_from (none_with_size step.notices) (list_all (λ x. none_with_size x.notices) steps)
      (step-other past (first_due now_due) step p.0) (walk-other steps (step_happens placed.task step placed.effect ∷ past) (left_after now_due) p.1)

  all-notes : (steps : List Step) → list_all (λ step. none_with_size step.notices) steps ≡ true → none_with_size (flat_map (λ (step : Step). step.notices) steps) ≡ true
  all-notes steps e = all-flat (λ step. step.notices) (λ note. not (same_cause note.cause Size)) steps ∙ e

  both-notes : (own : List Note) (steps : List Step) → none_with_size own ≡ true → list_all (λ step. none_with_size step.notices) steps ≡ true
      → none_with_size (own ++ flat_map (λ step. step.notices) steps) ≡ true
  both-notes own steps h k =
      list_all-append (λ note. not (same_cause note.cause Size)) own (flat_map (λ step. step.notices) steps)
      ∙ and_from (none_with_size own) (none_with_size (flat_map (λ step. step.notices) steps)) h (all-notes steps k)

  no_own : (own : List Note) → is_empty own ≡ true → none_with_size own ≡ true
  no_own [] e = refl
  no_own (note ∷ notes) e = absurd (true≢false (sym e))

  record-other : (entry : Record) (e : Event) → has_right_own_value (record entry { event = e }) ≡ true
      → list_all (λ step. none_with_size step.notices) (steps_of (record entry { event = e })) ≡ true → none_with_size (notes_of entry) ≡ true
  record-other entry (event.Answer load outcome moment) h k =
      let p = and_parts (none_with_size entry.notices) (list_all (λ step. none_with_size step.notices) entry.steps) k in both-notes entry.notices entry.steps p.0 p.1
  record-other entry (event.Open conn) h k = both-notes entry.notices entry.steps (no_own entry.notices (and_parts _ _ h).1) k
  record-other entry (event.Close conn) h k = both-notes entry.notices entry.steps (no_own entry.notices (and_parts _ _ h).1) k
  record-other entry (event.Feed conn piece moment) h k = both-notes entry.notices entry.steps (no_own entry.notices (and_parts _ _ h).1) k
  record-other entry (event.GiveUp load moment) h k = both-notes entry.notices entry.steps (no_own entry.notices (and_parts _ _ h).1) k

  records-other : (entries : List Record) (past : History)
      → list_all (λ placed. list_all (has_right_notes config) placed.walked.placed_steps) (placed_records_after config made past entries) ≡ true
      → list_all (λ placed. has_right_own_value placed.entry) (placed_records_after config made past entries) ≡ true
      → list_all (λ entry. none_with_size (notes_of entry)) entries ≡ true
  records-other [] past h k = refl
  records-other (entry ∷ entries) past h k =
      let placed = placed_record config made past entry in
      let p = and_parts (list_all (has_right_notes config) placed.walked.placed_steps) _ h in
      let q = and_parts (has_right_own_value entry) _ k in
      and_from (none_with_size (notes_of entry)) (list_all (λ x. none_with_size (notes_of x)) entries)
      (record-other entry entry.event q.0 (walk-other (steps_of entry) (happening_of entry.event ∷ past) (tasks_of past entry.event) p.0))
      (records-other entries placed.walked.after p.1 q.1)

pub nothing_told_size : NothingToldSize
nothing_told_size config transcript unlimited obeys =
    records-other config unlimited transcript.made.nanos transcript.records []
    (sym (all-flat (λ placed. placed.walked.placed_steps) (has_right_notes config) (placed_records_after config transcript.made.nanos [] transcript.records)) ∙ obeys.told)
    obeys.owned
