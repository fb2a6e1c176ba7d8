-- Records that go for a newcomer, one after another, and then its write.
use Rattle.std.proofs.Common.{◌≡◌, refl, ap, sym, ◌∙◌, ℕ, zero, suc, ◌-◌, ◌<◌, arith, true, true≢false, eqb, cond, length, List, [], ◌∷◌, Option, Some, None, is_some}
use Rattle.std.specs.Prelude.{slice_set, slice_index_or}
use Rattle.std.specs.Option.{option_and_then}
use Rattle.std.proofs.lemmas.Bool.{ne_eqb, and_parts}
use Rattle.engine_reference.specs.declared.rules.causes.RemovalCause.TheVariants as cause
use Rattle.engine_reference.specs.declared.data.Record.{Record}
use Rattle.engine_reference.specs.declared.data.Upsert.{Upsert}
use Rattle.engine_reference.specs.Admission.{shortest_front, with_first}
use Rattle.engine_reference.specs.Records.{record_at, without_record, changed_at, moved_to_back, settled_in, weight_at}
use Rattle.engine_reference.specs.Runs.{with_left, all_left, next_to_evict, counting, put_off}
use Rattle.engine_reference.specs.Soundness.{AreOnce, IsIn}
use Rattle.engine_reference.specs.State.{State}
use Rattle.engine_reference.proofs.Evicting.{settled_in-left, first-listed, front-none}
use Rattle.engine_reference.proofs.Unapplied.{record_at-without}
use Rattle.engine_cells.specs.Kept.{Kept, kept_at, numbered_at, is_admitted_as}
use Rattle.engine_runs.specs.Displacing.{without_victims, front_of, displaced, KeepsUncounted, GivesWay}
use Rattle.engine_runs.proofs.Contests.{kept-number}
use Rattle.engine_runs.proofs.SweepingStretching.{fewer}

-- another place has the number that it had
numbered-other : (ns : List (Option ℕ)) (i j : ℕ) → (j ≡ i → ⊥) → slice_index_or (slice_set ns i None) j None ≡ slice_index_or ns j None
numbered-other [] i j other = refl
numbered-other (n ∷ ns) zero zero other = absurd (other refl)
numbered-other (n ∷ ns) zero (suc j) other = refl
numbered-other (n ∷ ns) (suc i) zero other = refl
numbered-other (n ∷ ns) (suc i) (suc j) other = numbered-other ns i j (λ e. other (ap suc e))

module _ {K V P S R : Type 0} where
  -- the tables once a record left its place
  abbrev pub without_place : Kept K V P S R → ℕ → Record K V → Kept K V P S R
  without_place t place r = record { state = with_left cause.Size t.state (Some r); numbers = slice_set t.numbers place None }

  -- what an admitted record that leaves does not touch
  uncounted-stay : (t : Kept K V P S R) (place : ℕ) (r : Record K V) → kept_at t place ≡ Some r → is_some r.counts ≡ true → KeepsUncounted t (without_place t place r)
  uncounted-stay t place r there counts other x here out =
      ap (λ o. option_and_then (λ n. record_at (without_record r.number t.state.records) n) o) (numbered-other t.numbers place other (λ e. differs (let f : Some x ≡ Some r = sym here ∙ ap (λ i. kept_at t i) e ∙ there in cc)))
      ∙ go (numbered_at t.numbers other) here
    where
      differs : (x ≡ r → ⊥)
      differs same = true≢false (sym counts ∙ ap (λ y. is_some y.counts) (sym same) ∙ out)

      found : record_at t.state.records r.number ≡ Some r
      found = kept-number t.state.records (numbered_at t.numbers place) r there

      go : (o : Option ℕ) → option_and_then (λ n. record_at t.state.records n) o ≡ Some x → option_and_then (λ n. record_at (without_record r.number t.state.records) n) o ≡ Some x
      go None e = absurd (cc)
      go (Some n) e = record_at-without r.number t.state.records n (λ same. differs (let f : Some x ≡ Some r = sym e ∙ ap (λ m. record_at t.state.records m) (sym same) ∙ found in cc)) ∙ e

  victims-go : (s : State K V P S R) (r : Record K V) (o : Option (List (Record K V))) → record_at s.records r.number ≡ Some r → is_some (with_first r o) ≡ true
      → (without_victims o (with_left cause.Size s (Some r)) ≡ without_victims (with_first r o) s) × (is_some o ≡ true)
  victims-go s r None there h = absurd (cc)
  victims-go s r (Some vs) there h = (ap (λ x. all_left cause.Size vs (with_left cause.Size s x)) (sym there), refl)

  -- the first of the front goes
  pub next-goes : (t : Kept K V P S R) (left rest place : ℕ) (r : Record K V) → AreOnce t.state.access → ((n : ℕ) → IsIn n t.state.access → is_admitted_as n (record_at t.state.records n) ≡ true)
      → is_some (front_of left t.state) ≡ true → 0 < left → kept_at t place ≡ Some r → next_to_evict t.state ≡ Some r → rest ≡ left - weight_at r → GivesWay left rest t (without_place t place r)
  next-goes t left rest place r once admitted front some there first less =
      let s = t.state in
      let found = kept-number s.records (numbered_at t.numbers place) r there in
      let listed = first-listed s.records s.access r first in
      let counts : is_some r.counts ≡ true = (and_parts (eqb r.number r.number) (is_some r.counts) (ap (λ o. is_admitted_as r.number o) (sym found) ∙ admitted r.number listed)).1 in
      let after : State K V P S R = with_left cause.Size s (Some r) in
      let o : Option (List (Record K V)) = front_of (left - weight_at r) after in
      let whole : front_of left s ≡ with_first r o =
      ap (λ xs. shortest_front left xs) (settled_in-left s.records s.access r once first) ∙ ap (λ b. cond b (Some []) (with_first r o)) (ne_eqb left 0 (λ z. omega arith)) in
      let both = victims-go s r o found (ap (λ p. is_some p) (sym whole) ∙ front) in
      record {
        front = ap (λ n. is_some (front_of n after)) less ∙ both.1;
        same = ap (λ n. displaced n after) less ∙ both.0 ∙ ap (λ p. without_victims p s) (sym whole);
        keeps = uncounted-stay t place r there counts;
      }

  pub way-start : (t : Kept K V P S R) (weight : ℕ) → is_some (front_of weight t.state) ≡ true → GivesWay weight weight t t
  way-start t weight front = record { front = front; same = refl; keeps = λ place r here out. here }

  pub way-more : (a b c : Kept K V P S R) (weight rest last : ℕ) → GivesWay weight rest a b → GivesWay rest last b c → GivesWay weight last a c
  way-more a b c weight rest last h k = record {
    front = k.front;
    same = k.same ∙ h.same;
    keeps = λ place r here out. k.keeps place r (h.keeps place r here out) out;
  }

  pub nothing-left : (s : State K V P S R) (weight : ℕ) → weight ≡ 0 → displaced weight s ≡ s
  nothing-left s weight e = ap (λ o. without_victims o s) (front-none (settled_in s.records s.access) weight e)

  -- ---- the write

  pub counting-at : (s : State K V P S R) (u : Upsert) (n : ℕ) → n ≡ u.number
      → record s { records = changed_at n (λ x. record x { applied = u.write; counts = Some u.weight }) s.records; access = moved_to_back n s.access; order = moved_to_back n s.order } ≡ counting u s
  counting-at s u n same = ap (λ m. record s { records = changed_at m (λ x. record x { applied = u.write; counts = Some u.weight }) s.records; access = moved_to_back m s.access; order = moved_to_back m s.order }) same

  pub put_off-at : (s : State K V P S R) (u : Upsert) (n : ℕ) → n ≡ u.number → record s { records = changed_at n (λ x. record x { applied = u.write }) s.records } ≡ put_off u s
  put_off-at s u n same = ap (λ m. record s { records = changed_at m (λ x. record x { applied = u.write }) s.records }) same

  pub fewer-place : (t : Kept K V P S R) (place : ℕ) (r : Record K V) → kept_at t place ≡ Some r → length (without_place t place r).state.records < length t.state.records
  fewer-place t place r there = fewer r.number t.state.records r (kept-number t.state.records (numbered_at t.numbers place) r there)
