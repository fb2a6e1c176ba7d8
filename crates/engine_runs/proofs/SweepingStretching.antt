-- The steps of the loop, and what it leaves.
use Rattle.std.proofs.Common.{◌≡◌, refl, ap, sym, ◌∙◌, subst, ℕ, ◌<◌, arith, Bool, true, ◌||◌, length, List, [], ◌∷◌, ◌++◌, Option, Some, None, is_some, inl, inr, eqb}
use Rattle.std.specs.Prelude.{min, nat_lt}
use Rattle.std.specs.List.{list_any}
use Rattle.std.proofs.lemmas.Bool.{cases_Bool, lt-ltb}
use Rattle.std.proofs.Math.Logic.{∥∥₁_elim}
use Rattle.std.proofs.Props.{props}
use Rattle.engine_reference.specs.declared.rules.causes.RemovalCause.{RemovalCause}
use Rattle.engine_reference.specs.declared.data.Record.{Record}
use Rattle.engine_reference.specs.declared.data.Settings.{Settings}
use Rattle.engine_reference.specs.Admission.{is_above}
use Rattle.engine_reference.specs.Records.{record_at, without_record, admitted_number, admitted_weight, admitted_in, with_admitted}
use Rattle.engine_reference.specs.Runs.{Step, Steps, leaves, evicts, IsDone, IsApplied, IsSwept, is_due_for, left, with_left, first_of, is_later_tick}
use Rattle.engine_reference.specs.Soundness.{IsSound, IsAccounted}
use Rattle.engine_reference.specs.State.{State, Answers}
use Rattle.engine_reference.specs.Times.{tick_of}
use Rattle.engine_reference.specs.Visible.{is_covered_by}
use Rattle.engine_reference.proofs.SoundSteps.{left-is_sound, counted}
use Rattle.engine_reference.proofs.run_laws.Fronting.{each-at, there-before}
use Rattle.engine_runs.specs.Fronts.{MayLeave, dies, cleared, excess, IsClean}
use Rattle.engine_cells.specs.Stretches.{Stretch, StepsFor}
use Rattle.engine_cells.specs.Swept.{NoneIsCleared}
use Rattle.engine_runs.specs.Stretches.{EndsRun, KeepsRest}

module _ {K V : Type 0} where
  pub fewer : (n : ℕ) (rs : List (Record K V)) (r : Record K V) → record_at rs n ≡ Some r → length (without_record n rs) < length rs
  fewer n [] r h = absurd (cc)
  fewer n (x ∷ rs) r h = elim (cases_Bool (eqb x.number n)) [
    | inl e ↦ rw e (omega arith)
    | inr e ↦ let less = fewer n rs r (rw e at h) in rw e (omega arith)
  ]

  pub first-admitted : (rs : List (Record K V)) (ns : List ℕ) (r : Record K V) → first_of (admitted_in rs ns) ≡ Some r → (n : ℕ) × (record_at rs n ≡ Some r)
  first-admitted rs [] r h = absurd (cc)
  first-admitted rs (n ∷ ns) r h = go (record_at rs n) refl h (first-admitted rs ns r)
    where
      go : (o : Option (Record K V)) → record_at rs n ≡ o → first_of (with_admitted o (admitted_in rs ns)) ≡ Some r → (first_of (admitted_in rs ns) ≡ Some r → (n : ℕ) × (record_at rs n ≡ Some r)) → (n : ℕ) × (record_at rs n ≡ Some r)
      go None at h later = later h
      go (Some x) at h later = elim (cases_Bool (is_some x.counts)) [ inl c ↦ let first = rw c at h in (n, at ∙ first) | inr c ↦ later (rw c at h) ]

module _ {K V P S R : Type 0} where
  -- ---- a record leaves

  pub applied-left : (why : RemovalCause) (n : ℕ) (s : State K V P S R) → IsApplied s → IsApplied (left why n s)
  applied-left why n s h = go (record_at s.records n)
    where
      go : (o : Option (Record K V)) → IsApplied (with_left why s o)
      go None = h
      go (Some r) = record { reads = h.reads; writes = h.writes }

  pub rest-start : (s : State K V P S R) → KeepsRest s s
  rest-start s = record { predicates = refl; unsent = refl; ran = refl; settings = refl; sketch = refl; sound = λ h. h }

  pub later-alike : (old new : State K V P S R) (now : ℕ) → KeepsRest old new → is_later_tick old now ≡ is_later_tick new now
  later-alike old new now h = ap (λ n. nat_lt (tick_of old.settings n) (tick_of old.settings now)) (sym h.ran) ∙ ap (λ t. nat_lt (tick_of t new.ran) (tick_of t now)) (sym h.settings)

  pub rest-more : (old mid new : State K V P S R) → KeepsRest old mid → KeepsRest mid new → KeepsRest old new
  rest-more old mid new h k = record { predicates = k.predicates ∙ h.predicates; unsent = k.unsent ∙ h.unsent; ran = k.ran ∙ h.ran; settings = k.settings ∙ h.settings; sketch = k.sketch ∙ h.sketch; sound = λ x. k.sound (h.sound x) }

  pub rest-left : (why : RemovalCause) (n : ℕ) (s : State K V P S R) → KeepsRest s (left why n s)
  rest-left why n s = go (record_at s.records n) (left-is_sound why n s)
    where
      go : (o : Option (Record K V)) → (IsSound s → IsSound (with_left why s o)) → KeepsRest s (with_left why s o)
      go None h = record { predicates = refl; unsent = refl; ran = refl; settings = refl; sketch = refl; sound = h }
      go (Some r) h = record { predicates = refl; unsent = refl; ran = refl; settings = refl; sketch = refl; sound = h }

  pub fewer-left : (why : RemovalCause) (s : State K V P S R) (r : Record K V) → record_at s.records r.number ≡ Some r → length (left why r.number s).records < length s.records
  fewer-left why s r there = subst (λ o. length (with_left why s o).records < length s.records) (sym there) (fewer r.number s.records r there)

  -- no other held record is of a step before the clear
  pub none-cleared_left : (why : RemovalCause) (n : ℕ) (s : State K V P S R) → ∥ IsSound s ∥₁ → NoneIsCleared s → NoneIsCleared (left why n s)
  none-cleared_left why n s sound none = go (record_at s.records n)
    where
      go : (o : Option (Record K V)) → NoneIsCleared (with_left why s o)
      go None = none
      go (Some r) = λ x there held. ∥∥₁_elim sound (Prim.hlevel props) (λ k. none x (there-before r.number x.number s.records x k.records.numbered there) held)

  -- what may leave makes a step, whatever the predicates answer
  pub step-of : (answers : Answers K V P R) (s new : State K V P S R) (now : ℕ) (r : Record K V) (why : RemovalCause) → IsApplied s → record_at s.records r.number ≡ Some r → MayLeave s now r why → new ≡ left why r.number s → StepsFor answers now s new
  step-of answers s new now r why applied there (dies held come is) after =
      leaves r why applied there held (ap (λ w. is_due_for answers s now r w) is ∙ come) after
  step-of answers s new now r why applied there (cleared held older is) after =
      leaves r why applied there held (ap (λ w. is_due_for answers s now r w) is ∙ ap (λ b. b || list_any (λ p. is_covered_by answers s.rules p r.entry) s.predicates) older) after
  step-of answers s new now r why applied there (excess clean above next is) after =
      evicts r applied clean above next (after ∙ ap (λ w. left w r.number s) is)

module _ {K V P S R : Type 0} (answers : Answers K V P R) (now : ℕ) where
  pub stretch-start : (s : State K V P S R) → Stretch answers now s s
  stretch-start s = record { stages = []; steps = refl }

  steps-more : (stages : List (State K V P S R)) (old mid new : State K V P S R) → Steps answers now old stages mid → Step answers now mid new → Steps answers now old (stages ++ new ∷ []) new
  steps-more [] old mid new e step = (subst (λ s. Step answers now s new) e step, refl)
  steps-more (t ∷ stages) old mid new h step = (h.0, steps-more stages t mid new h.1 step)

  pub stretch-more : (old mid new : State K V P S R) → Stretch answers now old mid → Step answers now mid new → Stretch answers now old new
  stretch-more old mid new h step = record { stages = h.stages ++ new ∷ []; steps = steps-more h.stages old mid new h.steps step }

module _ {K V P S R : Type 0} where
  -- where nothing is pending, all that is there is held
  all-held : (s : State K V P S R) → IsSound s → s.unsent ≡ [] → IsApplied s → (n : ℕ) (r : Record K V) → record_at s.records n ≡ Some r → r.is_held ≡ true
  all-held s sound sent applied n r there =
      let accounted : IsAccounted s.unsent s.writes r = each-at (IsAccounted s.unsent s.writes) s.records n r sound.records.accounted there in
      (counted r (subst (λ us. IsAccounted us [] r) sent (subst (λ ws. IsAccounted s.unsent ws r) applied.writes accounted))).held

  -- clean fronts are all that the law asks, by the state's own write list
  clean-swept : (now : ℕ) (old last : State K V P S R) → IsSound last → last.unsent ≡ [] → IsApplied last → KeepsRest old last → IsClean now last → IsSwept now old last
  clean-swept now old last sound sent applied rest clean = record {
    live = λ r first. let p = first-admitted last.records last.order r first in clean.fronts.written.live r first (all-held last sound sent applied p.0 r p.1);
    clear = λ r first. let p = first-admitted last.records last.order r first in clean.fronts.written.clear r first (all-held last sound sent applied p.0 r p.1);
    idle = λ r first. let p = first-admitted last.records last.access r first in clean.fronts.used r first (all-held last sound sent applied p.0 r p.1);
    own = λ later r there. clean.fronts.timer (ap (λ (t : Settings). nat_lt (tick_of t last.ran) (tick_of t now)) rest.settings ∙ ap (λ ran. nat_lt (tick_of old.settings ran) (tick_of old.settings now)) rest.ran ∙ later) r there (all-held last sound sent applied r.number r there);
  }

  -- a stretch that leaves the fronts clean, and then the counts, end a run
  pub run-from : (answers : Answers K V P R) (now : ℕ) (refused : Bool) (old last new : State K V P S R) → Stretch answers now old last → IsApplied last
      → new ≡ record last { number = admitted_number last.records; weight = min (admitted_weight last.records) 18446744073709551615; ran = now; table_refused = refused }
      → KeepsRest old last → IsClean now last → old.predicates ≡ [] → ∥ IsSound old ∥₁ → EndsRun answers now old new
  run-from answers now refused old last new h applied after rest clean none sound = record {
    runs = record { stages = h.stages; last = last; steps = h.steps; applied = applied; refused = refused; after = after };
    done = subst (λ (s : State K V P S R). IsDone s) (sym after) (record {
      within = λ capacity is_set some more. clean.light (ap (λ o. is_above o (admitted_weight last.records)) is_set ∙ lt-ltb capacity (admitted_weight last.records) more);
      ended = rest.predicates ∙ none;
    });
    sketch = ap (λ (s : State K V P S R). s.sketch) after ∙ rest.sketch;
    swept = λ sent. subst (λ (s : State K V P S R). IsSwept now old s) (sym after) (record {
      live = λ r first. ∥∥₁_elim sound (Prim.hlevel props) (λ k. (clean-swept now old last (rest.sound k) (rest.unsent ∙ sent) applied rest clean).live r first);
      clear = λ r first. ∥∥₁_elim sound (Prim.hlevel props) (λ k. (clean-swept now old last (rest.sound k) (rest.unsent ∙ sent) applied rest clean).clear r first);
      idle = λ r first. ∥∥₁_elim sound (Prim.hlevel props) (λ k. (clean-swept now old last (rest.sound k) (rest.unsent ∙ sent) applied rest clean).idle r first);
      own = λ later r there. ∥∥₁_elim sound (Prim.hlevel props) (λ k. (clean-swept now old last (rest.sound k) (rest.unsent ∙ sent) applied rest clean).own later r there);
    });
  }
