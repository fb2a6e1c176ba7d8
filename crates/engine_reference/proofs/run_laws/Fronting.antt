-- Evictions within a run take the shortest front that reaches the excess.
use Rattle.std.proofs.Common.{◌≡◌, refl, ap, sym, ◌∙◌, subst, ℕ, zero, suc, ◌+◌, ◌-◌, ◌<◌, ◌≤◌, ◌||◌, arith, Bool, true, false, true≢false, cond, List, [], ◌∷◌, ◌++◌, Some, append_assoc, append-nil, inl, inr}
use Rattle.std.specs.Prelude.{remove, nat_lt}
use Rattle.std.specs.List.{list_any}
use Rattle.std.proofs.lemmas.Bool.{or_parts, eqb-true, ne_eqb, ltb-true, cases_eq}
use Rattle.engine_reference.specs.declared.rules.causes.RemovalCause.{RemovalCause}
use Rattle.engine_reference.specs.declared.rules.causes.RemovalCause.TheVariants as cause
use Rattle.engine_reference.specs.declared.data.Record.{Record}
use Rattle.engine_reference.specs.Admission.{is_above, shortest_front, with_first}
use Rattle.engine_reference.specs.Records.{record_at, without_record, settled_in, weight_at, admitted_weight}
use Rattle.engine_reference.specs.Runs.{Step, reads, writes, grows, leaves, evicts, ends, Steps, IsApplied, is_due_for, with_left, first_of}
use Rattle.engine_reference.specs.Soundness.{Each, AreNumbered, IsAccounted, IsSound}
use Rattle.engine_reference.specs.State.{State, Answers}
use Rattle.engine_reference.specs.Telling.{notices_of}
use Rattle.engine_reference.specs.Visible.{is_covered_by, told}
use Rattle.engine_reference.proofs.Evicting.{first-there, settled_in-left, weight-without, front-none}
use Rattle.engine_reference.proofs.SoundSteps.{step-sound, steps-sound}
use Rattle.engine_reference.proofs.TellingSteps.{told_once, notices_of-append, notices_of-none}
use Rattle.engine_reference.proofs.Unapplied.{record_at-without, settled_in-settled, first-settled}
use Rattle.engine_reference.specs.RunLaws.Fronts.{NothingIsDue, EvictsFront, RunsEvictShortestFront, for_size}
use Rattle.std.proofs.lemmas.Bool.Decides.{nat_tests}

-- ---- lists

list_any-remove_false : {X : Type 0} (test : X → Bool) (xs : List X) (i : ℕ) → list_any test xs ≡ false → list_any test (remove xs i) ≡ false
list_any-remove_false test [] zero h = h
list_any-remove_false test [] (suc i) h = h
list_any-remove_false test (x ∷ xs) zero h = (or_parts (test x) (list_any test xs) h).1
list_any-remove_false test (x ∷ xs) (suc i) h = let p = or_parts (test x) (list_any test xs) h in ap (λ b. b || list_any test (remove xs i)) p.0 ∙ list_any-remove_false test xs i p.1

pub or_right : (a b : Bool) → (a || b) ≡ false → (a ≡ false) × (b ≡ false)
or_right true b h = absurd (true≢false h)
or_right false b h = (refl, h)

module _ {K V : Type 0} where
  -- what is found after a record went was there before
  pub there-before : (n m : ℕ) (rs : List (Record K V)) (r : Record K V) → AreNumbered rs → record_at (without_record n rs) m ≡ Some r → record_at rs m ≡ Some r
  there-before n m rs r numbered h = elim (cases_eq n m) [
    | inl same ↦ absurd (gone rs numbered (subst (λ k. record_at (without_record n rs) k ≡ Some r) (sym same) h))
    | inr other ↦ sym (record_at-without n rs m other) ∙ h
  ]
    where
      gone : (rs : List (Record K V)) → AreNumbered rs → record_at (without_record n rs) n ≡ Some r → ⊥
      gone [] numbered h = absurd (cc)
      gone (x ∷ rs) numbered h = let next = gone rs numbered.1 in grind (arith, nat_tests, h, next)

  pub each-at : (Q : Record K V → Type 0) (rs : List (Record K V)) (n : ℕ) (r : Record K V) → Each Q rs → record_at rs n ≡ Some r → Q r
  each-at Q [] n r h there = absurd (cc)
  each-at Q (x ∷ rs) n r h there = let next = each-at Q rs n r h.1 in grind (arith, nat_tests, there, next)

-- ---- the rest of a run

module _ {K V P S R : Type 0} (answers : Answers K V P R) (now : ℕ) where
  rest_of : (before after : List (State K V P S R)) (old mid last : State K V P S R) → Steps answers now old (before ++ after) last → Steps answers now old before mid → Steps answers now mid after last
  rest_of [] after old mid last whole part = subst (λ t. Steps answers now t after last) (sym part) whole
  rest_of (x ∷ before) after old mid last whole part = rest_of before after x mid last whole.1 part.1

  -- the settled record used longest ago is held
  next-held : (s : State K V P S R) (r : Record K V) → IsSound s → first_of (settled_in s.records s.access) ≡ Some r → r.is_held ≡ true
  next-held s r sound e =
      let settled = first-settled s.records (settled_in s.records s.access) r (settled_in-settled s.records s.access) e in
      let accounted : IsAccounted s.unsent s.writes r = each-at (IsAccounted s.unsent s.writes) s.records r.number r sound.records.accounted settled.1 in
      (accounted.counts (sym (eqb-true r.writes r.applied settled.0))).0

  quiet-left : (s : State K V P S R) (r : Record K V) → IsSound s → NothingIsDue answers now s → NothingIsDue answers now (with_left cause.Size s (Some r))
  quiet-left s r sound quiet = record {
    alive = λ x there held. quiet.alive x (there-before r.number x.number s.records x sound.records.numbered there) held;
    uncovered = λ x there held. quiet.uncovered x (there-before r.number x.number s.records x sound.records.numbered there) held;
  }

  none_leaves : (s : State K V P S R) (r : Record K V) (why : RemovalCause) → NothingIsDue answers now s → record_at s.records r.number ≡ Some r → r.is_held ≡ true → is_due_for answers s now r why ≡ true → ⊥
  none_leaves s r cause.Expired quiet there held due = true≢false (sym due ∙ quiet.alive r there held)
  none_leaves s r cause.Explicit quiet there held due = true≢false (sym due ∙ quiet.uncovered r there held)
  none_leaves s r cause.Replaced quiet there held due = true≢false (sym due)
  none_leaves s r cause.Size quiet there held due = true≢false (sym due)

  applied-left : (s : State K V P S R) (r : Record K V) → IsApplied s → IsApplied (with_left cause.Size s (Some r))
  applied-left s r applied = record { reads = applied.reads; writes = applied.writes }

  taking : (stages : List (State K V P S R)) (s last : State K V P S R) (capacity : ℕ) → IsSound s → IsApplied s → NothingIsDue answers now s → Steps answers now s stages last
      → s.settings.capacity ≡ Some capacity → admitted_weight last.records ≤ capacity → EvictsFront capacity s last
  taking [] s last capacity sound applied quiet e is_set within =
      let fits : admitted_weight s.records ≤ capacity = subst (λ x. admitted_weight x.records ≤ capacity) e within in
      record {
        victims = [];
        front = front-none (settled_in s.records s.access) (admitted_weight s.records - capacity) (omega arith);
        records = ap (λ t. t.records) e;
        access = ap (λ t. t.access) e;
        notices = ap (λ t. t.notices) e ∙ sym (append-nil s.notices) ∙ ap (λ ns. s.notices ++ ns) (sym (notices_of-none s.settings.tells));
      }
  taking (mid ∷ stages) s last capacity sound applied quiet e is_set within = by_step mid e.0 (step-sound answers now s mid sound e.0) (λ k a q i. taking stages mid last capacity k a q e.1 i within)
    where
      by_step : (mid : State K V P S R) → Step answers now s mid → IsSound mid
          → (IsSound mid → IsApplied mid → NothingIsDue answers now mid → mid.settings.capacity ≡ Some capacity → EvictsFront capacity mid last) → EvictsFront capacity s last
      by_step mid (reads r rest some after) k later = absurd (let both : [] ≡ r ∷ rest = sym applied.reads ∙ some in cc)
      by_step mid (writes w rest none some after) k later = absurd (let both : [] ≡ w ∷ rest = sym applied.writes ∙ some in cc)
      by_step mid (grows words a wants c size_is size after) k later =
          let h = subst (λ t. IsSound t → IsApplied t → NothingIsDue answers now t → t.settings.capacity ≡ Some capacity → EvictsFront capacity t last) after later
          (subst (λ t. IsSound t) after k) (record { reads = applied.reads; writes = applied.writes }) (record { alive = quiet.alive; uncovered = quiet.uncovered }) is_set in
          record { victims = h.victims; front = h.front; records = h.records; access = h.access; notices = h.notices }
      by_step mid (leaves r why a there held due after) k later = absurd (none_leaves s r why quiet there held due)
      by_step mid (evicts r a clean above next after) k later = evicted
        where
          there : record_at s.records r.number ≡ Some r
          there = first-there s.records s.access r next

          held : r.is_held ≡ true
          held = next-held s r sound next

          t : State K V P S R
          t = with_left cause.Size s (Some r)

          is_t : mid ≡ t
          is_t = after ∙ ap (λ o. with_left cause.Size s o) there

          h : EvictsFront capacity t last
          h = subst (λ t. IsSound t → IsApplied t → NothingIsDue answers now t → t.settings.capacity ≡ Some capacity → EvictsFront capacity t last) is_t later
              (subst (λ t. IsSound t) is_t k) (applied-left s r applied) (quiet-left s r sound quiet) is_set

          over : capacity < admitted_weight s.records
          over = ltb-true capacity (admitted_weight s.records) (sym (ap (λ c. is_above c (admitted_weight s.records)) is_set) ∙ above)

          weight : admitted_weight s.records ≡ weight_at r + admitted_weight t.records
          weight = weight-without s.records r.number r there

          less : (admitted_weight s.records - capacity) - weight_at r ≡ admitted_weight t.records - capacity
          less = omega (arith, weight)

          excess : admitted_weight s.records - capacity ≡ 0 → ⊥
          excess z = omega (arith, over)

          tells : Bool
          tells = s.settings.tells

          evicted : EvictsFront capacity s last
          evicted = record {
            victims = r ∷ h.victims;
            front = ap (λ xs. shortest_front (admitted_weight s.records - capacity) xs) (settled_in-left s.records s.access r sound.records.once next)
                ∙ ap (λ b. cond b (Some []) (with_first r (shortest_front ((admitted_weight s.records - capacity) - weight_at r) (settled_in t.records t.access)))) (ne_eqb (admitted_weight s.records - capacity) 0 excess)
                ∙ ap (λ w. with_first r (shortest_front w (settled_in t.records t.access))) less
                ∙ ap (λ o. with_first r o) h.front;
            records = h.records;
            access = h.access;
            notices = h.notices
                ∙ ap (λ ns. ns ++ notices_of tells (for_size h.victims)) (ap (λ b. cond b (told tells cause.Size r.entry s.notices) s.notices) held ∙ told_once tells cause.Size r.entry s.notices)
                ∙ append_assoc s.notices (notices_of tells (for_size (r ∷ []))) (notices_of tells (for_size h.victims))
                ∙ ap (λ ns. s.notices ++ ns) (sym (notices_of-append tells (for_size (r ∷ [])) (for_size h.victims)));
          }
      by_step mid (ends place p a there none after) k later =
          let t : State K V P S R = record s { predicates = remove s.predicates place } in
          let h = subst (λ t. IsSound t → IsApplied t → NothingIsDue answers now t → t.settings.capacity ≡ Some capacity → EvictsFront capacity t last) after later
          (subst (λ t. IsSound t) after k) (record { reads = applied.reads; writes = applied.writes })
          (record {
            alive = quiet.alive;
            uncovered = λ x here held.
                let parts = or_right (nat_lt x.entry.step s.cleared) (list_any (λ q. is_covered_by answers s.rules q x.entry) s.predicates) (quiet.uncovered x here held) in
                ap (λ b. b || list_any (λ q. is_covered_by answers s.rules q x.entry) (remove s.predicates place)) parts.0
                ∙ list_any-remove_false (λ q. is_covered_by answers s.rules q x.entry) s.predicates place parts.1;
          }) is_set in
          record { victims = h.victims; front = h.front; records = h.records; access = h.access; notices = h.notices }

module _ (K V P S R : Type 0) where
  pub runs_evict_shortest_front : RunsEvictShortestFront K V P S R
  runs_evict_shortest_front answers now old mid new run before after capacity sound split until applied quiet is_set within =
      let whole : Steps answers now old (before ++ after) run.last = subst (λ xs. Steps answers now old xs run.last) split run.steps in
      let h = taking answers now after mid run.last capacity (steps-sound answers now before old mid sound until) applied quiet (rest_of answers now before after old mid run.last whole until) is_set
      (subst (λ t. admitted_weight t.records ≤ capacity) run.after within) in
      record {
        victims = h.victims;
        front = h.front;
        records = ap (λ t. t.records) run.after ∙ h.records;
        access = ap (λ t. t.access) run.after ∙ h.access;
        notices = ap (λ t. t.notices) run.after ∙ h.notices;
      }
