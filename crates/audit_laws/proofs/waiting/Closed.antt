-- Loads for which nobody waits.
use Rattle.std.proofs.Common.{◌≡◌, ℕ, Bool, not, ◌==◌, List, [], ◌∷◌, Some, None, refl, sym, ap, subst, arith}
use Rattle.std.specs.List.{filter, find}
use Rattle.std.specs.Option.{option_map_or}
use Rattle.std.proofs.lemmas.Bool.{eq-eqb}
use Rattle.std.proofs.lemmas.Option.{same_Some}
use Rattle.audit_model.specs.Follows.{Follows, after_event, after_steps, tasks_in, without_load}
use Rattle.audit_model.specs.Places.{steps_of, tasks_to_give_up}
use Rattle.audit_model.specs.Situation.{Situation, PendingLoad, connection_in, waiting_in}
use Rattle.audit_model.specs.declared.config.Config.{Config}
use Rattle.audit_model.specs.declared.event.Event.{Event}
use Rattle.audit_model.specs.declared.event.Event.TheVariants as event
use Rattle.audit_model.specs.declared.event.Instant.{Instant}
use Rattle.audit_model.specs.declared.transcript.Record.{Record}
use Rattle.audit_model.specs.declared.transcript.Step.{Step}
use Rattle.audit_laws.proofs.waiting.Counts.{one_if}
use Rattle.audit_laws.proofs.waiting.Standing.{wait_of}
use Rattle.audit_laws.specs.Waiting.Tidy.{Tidy, times_in, times_waiting}
use Rattle.audit_laws.specs.Waiting.Alone.{AreAll, WaitsAlone}
use Rattle.audit_laws.specs.Waiting.Closed.{NobodyWaits}
use Rattle.std.proofs.lemmas.Bool.Decides.{nat_tests}
use Rattle.audit_laws.proofs.Following.{passed}

none-in : (conn : ℕ) (cs : List ℕ) → AreAll conn cs → times_in conn cs ≡ 0 → cs ≡ []
none-in conn [] all none = refl
none-in conn (c ∷ cs) all none = let one : one_if (c == conn) ≡ 1 = ap one_if (eq-eqb c conn all.0) in absurd (omega arith)

nobody : (conn : ℕ) (loads : List PendingLoad) → WaitsAlone conn loads → times_waiting conn loads ≡ 0 → NobodyWaits loads
nobody conn [] alone none = tt
nobody conn (load ∷ loads) alone none = (none-in conn load.waiting alone.0 (omega arith), nobody conn loads alone.1 (omega arith))

pub closed : (s : Situation) (conn : ℕ) → Tidy [] s → WaitsAlone conn s.pending → connection_in conn s ≡ None → NobodyWaits s.pending
closed s conn tidy alone none =
    let few = tidy.once conn in
    let waits : wait_of (connection_in conn s) ≡ 0 = ap wait_of none in
    nobody conn s.pending alone (omega arith)

-- ---- a give-up

unwaited : (number : ℕ) (loads : List PendingLoad) → NobodyWaits loads → option_map_or (λ (load : PendingLoad). load.waiting) (find (λ load. load.number == number) loads) [] ≡ []
unwaited number [] none = refl
unwaited number (load ∷ loads) none = let next = unwaited number loads none.1 in grind (arith, nat_tests, next)

nobody-left : (p : PendingLoad → Bool) (loads : List PendingLoad) → NobodyWaits loads → NobodyWaits (filter p loads)
nobody-left p [] none = tt
nobody-left p (load ∷ loads) none = let next = nobody-left p loads none.1 in grind (arith, nat_tests, next)

no-steps : (config : Config) (u t : Situation) (steps : List Step) → after_steps config u [] steps ≡ Some t → (steps ≡ []) × (t ≡ u)
no-steps config u t [] e = (refl, sym (same_Some u t e))
no-steps config u t (step ∷ steps) e = let no : None ≡ Some t = e in cc

by-event : (config : Config) (s t : Situation) (entry : Record) (load : ℕ) (moment : Instant) → NobodyWaits s.pending
    → after_steps config (without_load load moment.nanos s) (tasks_to_give_up (waiting_in load s)) entry.steps ≡ Some t → (entry.steps ≡ []) × (t ≡ without_load load moment.nanos s) × NobodyWaits t.pending
by-event config s t entry load moment none e =
    let still = no-steps config (without_load load moment.nanos s) t entry.steps (subst (λ cs. after_steps config (without_load load moment.nanos s) (tasks_to_give_up cs) entry.steps ≡ Some t) (unwaited load s.pending none) e) in
    (still.0, still.1, subst (λ (u : Situation). NobodyWaits u.pending) (sym still.1) (nobody-left (λ l. not (l.number == load)) s.pending none))

at-event : (config : Config) (s t : Situation) (entry : Record) (load : ℕ) (moment : Instant) (happened : Event) → happened ≡ event.GiveUp load moment → NobodyWaits s.pending
    → after_steps config (after_event happened s) (tasks_in s happened) (steps_of (record entry { event = happened })) ≡ Some t → (entry.steps ≡ []) × (t ≡ without_load load moment.nanos s) × NobodyWaits t.pending
at-event config s t entry load moment happened is none e =
    by-event config s t entry load moment none (subst (λ h. after_steps config (after_event h s) (tasks_in s h) (steps_of (record entry { event = h })) ≡ Some t) is e)

pub given-up : (config : Config) (s t : Situation) (entry : Record) (load : ℕ) (moment : Instant) → entry.event ≡ event.GiveUp load moment → Follows config s entry t → NobodyWaits s.pending
    → (entry.steps ≡ []) × (t ≡ without_load load moment.nanos s) × NobodyWaits t.pending
given-up config s t entry load moment is e none = at-event config s t entry load moment entry.event is none (passed _ _ _ e).rest
