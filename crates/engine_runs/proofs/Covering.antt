-- The scan for what is covered, and the end of predicates.
use Rattle.std.proofs.Common.{◌≡◌, ◌≢◌, refl, ap, sym, ◌∙◌, subst, ℕ, zero, suc, ◌+◌, ◌-◌, ◌<◌, ◌≤◌, arith, Bool, true, false, true≢false, not, ◌&&◌, ◌||◌, length, List, [], ◌∷◌, Option, Some, None, is_some, get_or, get_or-set_other, inl, inr, ◌⊎◌}
use Rattle.std.specs.Prelude.{nat_lt, remove, slice_get, slice_set}
use Rattle.std.specs.List.{list_any}
use Rattle.std.specs.Option.{option_and_then}
use Rattle.std.proofs.Math.Logic.{∥∥₁_elim}
use Rattle.std.proofs.Props.{props}
use Rattle.std.proofs.lemmas.Bool.{and_parts, cases_eq, ltb-false}
use Rattle.std.proofs.lemmas.List.Edits.{length-remove}
use Rattle.std.proofs.lemmas.Option.{slice_get-get_or}
use Rattle.engine_reference.specs.declared.rules.causes.RemovalCause.TheVariants as cause
use Rattle.engine_reference.specs.declared.data.Record.{Record}
use Rattle.engine_reference.specs.declared.data.Registered.{Registered}
use Rattle.engine_reference.specs.Records.{record_at, without_record}
use Rattle.engine_reference.specs.Runs.{leaves, ends, covers_none, IsApplied, left}
use Rattle.engine_reference.specs.Soundness.{Each, IsSound}
use Rattle.engine_reference.specs.State.{State, Answers}
use Rattle.engine_reference.specs.Visible.{is_covered, is_covered_by}
use Rattle.engine_reference.proofs.Accounts.{each-map}
use Rattle.engine_reference.proofs.Unapplied.{record_at-without}
use Rattle.engine_reference.proofs.run_laws.Rising.{each-own}
use Rattle.engine_cells.specs.Kept.{Kept, kept_at, numbered_at}
use Rattle.engine_cells.specs.Stretches.{StepsFor}
use Rattle.engine_cells.specs.Swept.{NoneIsCleared}
use Rattle.engine_runs.proofs.Fronting.{kept-number}
use Rattle.engine_runs.specs.Covered.{is_covered_as, IsScanned, NoneIsCovered, EachCoversNone, CoverNone}

emptied : (numbers : List (Option ℕ)) (i : ℕ) → numbered_at (slice_set numbers i None) i ≡ None
emptied [] i = refl
emptied (n ∷ numbers) zero = refl
emptied (n ∷ numbers) (suc i) = emptied numbers i

first-not : (a b d : Bool) → (a && (b || d)) ≡ false → (a && b) ≡ false
first-not false b d h = refl
first-not true true d h = absurd (true≢false h)
first-not true false d h = refl

others-not : (a b d : Bool) → (a && (b || d)) ≡ false → (a && d) ≡ false
others-not false b d h = refl
others-not true true d h = absurd (true≢false h)
others-not true false d h = h

module _ {K V P R : Type 0} (answers : Answers K V P R) where
  covers-none : (rules : R) (p : Registered P) (rs : List (Record K V)) → Each (λ r. (r.is_held && is_covered_by answers rules p r.entry) ≡ false) rs → covers_none answers rules p rs ≡ true
  covers-none rules p [] h = refl
  covers-none rules p (r ∷ rs) h = ap (λ b. not b && covers_none answers rules p rs) h.0 ∙ covers-none rules p rs h.1

  each-covers_none : (rules : R) (ps : List (Registered P)) (rs : List (Record K V)) → Each (λ r. (r.is_held && list_any (λ p. is_covered_by answers rules p r.entry) ps) ≡ false) rs → EachCoversNone answers rules rs ps
  each-covers_none rules [] rs h = tt
  each-covers_none rules (p ∷ ps) rs h = (
    covers-none rules p rs (each-map (λ r. (r.is_held && (is_covered_by answers rules p r.entry || list_any (λ q. is_covered_by answers rules q r.entry) ps)) ≡ false) (λ r. (r.is_held && is_covered_by answers rules p r.entry) ≡ false)
        (λ r k. first-not r.is_held (is_covered_by answers rules p r.entry) (list_any (λ q. is_covered_by answers rules q r.entry) ps) k) rs h),
    each-covers_none rules ps rs (each-map (λ r. (r.is_held && (is_covered_by answers rules p r.entry || list_any (λ q. is_covered_by answers rules q r.entry) ps)) ≡ false) (λ r. (r.is_held && list_any (λ q. is_covered_by answers rules q r.entry) ps) ≡ false)
        (λ r k. others-not r.is_held (is_covered_by answers rules p r.entry) (list_any (λ q. is_covered_by answers rules q r.entry) ps) k) rs h),
  )

  covers-none_at : (rules : R) (rs : List (Record K V)) (ps : List (Registered P)) (i : ℕ) (p : Registered P) → slice_get ps i ≡ Some p → EachCoversNone answers rules rs ps → covers_none answers rules p rs ≡ true
  covers-none_at rules rs [] i p there h = absurd (cc)
  covers-none_at rules rs (q ∷ ps) zero p there h = let same : q ≡ p = cc in subst (λ x. covers_none answers rules x rs ≡ true) same h.0
  covers-none_at rules rs (q ∷ ps) (suc i) p there h = covers-none_at rules rs ps i p there h.1

  covers-none_without : (rules : R) (rs : List (Record K V)) (ps : List (Registered P)) (i : ℕ) (p : Registered P) → slice_get ps i ≡ Some p → EachCoversNone answers rules rs ps → EachCoversNone answers rules rs (remove ps i)
  covers-none_without rules rs [] i p there h = absurd (cc)
  covers-none_without rules rs (q ∷ ps) zero p there h = h.1
  covers-none_without rules rs (q ∷ ps) (suc i) p there h = (h.0, covers-none_without rules rs ps i p there h.1)

  -- it is enough that some proof shows it
  pub each-from : {X : Type 0} (rules : R) (rs : List (Record K V)) (ps : List (Registered P)) → ∥ X ∥₁ → (X → EachCoversNone answers rules rs ps) → EachCoversNone answers rules rs ps
  each-from rules rs [] h f = tt
  each-from rules rs (p ∷ ps) h f = (∥∥₁_elim h (Prim.hlevel props) (λ k. (f k).0), each-from rules rs ps h (λ k. (f k).1))

module _ {K V P S R : Type 0} (answers : Answers K V P R) where
  -- ---- places

  pub covered-there : (s : State K V P S R) (o : Option (Record K V)) → is_covered_as answers s o ≡ true → is_some o ≡ true
  covered-there s None h = absurd (true≢false (sym h))
  covered-there s (Some r) h = refl

  -- what stands in another place once a record left
  other-place : (s t : State K V P S R) (r : Record K V) → ((x : Record K V) → is_covered answers t x.entry ≡ is_covered answers s x.entry) → t.records ≡ without_record r.number s.records
      → record_at s.records r.number ≡ Some r → is_covered_as answers s (Some r) ≡ true → (o : Option ℕ)
      → is_covered_as answers s (option_and_then (λ n. record_at s.records n) o) ≡ false → is_covered_as answers t (option_and_then (λ n. record_at t.records n) o) ≡ false
  other-place s t r alike after there covered None h = refl
  other-place s t r alike after there covered (Some n) h = go (cases_eq r.number n)
    where
      seen : (o : Option (Record K V)) → is_covered_as answers t o ≡ is_covered_as answers s o
      seen None = refl
      seen (Some x) = ap (λ b. x.is_held && b) (alike x)

      go : (r.number ≡ n) ⊎ (r.number ≢ n) → is_covered_as answers t (record_at t.records n) ≡ false
      go (inl same) = absurd (true≢false (sym covered ∙ ap (λ o. is_covered_as answers s o) (sym there ∙ ap (λ m. record_at s.records m) same) ∙ h))
      go (inr apart) = ap (λ rs. is_covered_as answers t (record_at rs n)) after ∙ ap (λ o. is_covered_as answers t o) (record_at-without r.number s.records n apart) ∙ seen (record_at s.records n) ∙ h

  -- a covered record left its place
  pub scanned-left : (place : ℕ) (old new : Kept K V P S R) (r : Record K V) → ((x : Record K V) → is_covered answers new.state x.entry ≡ is_covered answers old.state x.entry)
      → new.state.records ≡ without_record r.number old.state.records → new.numbers ≡ slice_set old.numbers place None
      → kept_at old place ≡ Some r → is_covered_as answers old.state (Some r) ≡ true → IsScanned answers place old → IsScanned answers (place + 1) new
  scanned-left place old new r alike after gone here covered scanned i less = go (cases_eq i place)
    where
      place-empty : kept_at new place ≡ None
      place-empty = ap (λ o. option_and_then (λ n. record_at new.state.records n) o) (ap (λ ns. numbered_at ns place) gone ∙ emptied old.numbers place)

      go : (i ≡ place) ⊎ (i ≢ place) → is_covered_as answers new.state (kept_at new i) ≡ false
      go (inl same) = ap (λ j. is_covered_as answers new.state (kept_at new j)) same ∙ ap (λ o. is_covered_as answers new.state o) place-empty
      go (inr apart) =
          let number : numbered_at new.numbers i ≡ numbered_at old.numbers i = ap (λ ns. numbered_at ns i) gone ∙ get_or-set_other old.numbers place i None None apart in
          ap (λ o. is_covered_as answers new.state (option_and_then (λ n. record_at new.state.records n) o)) number
          ∙ other-place old.state new.state r alike after (kept-number old.state.records (numbered_at old.numbers place) r here) covered (numbered_at old.numbers i) (scanned i (omega arith))

  -- all places were scanned
  pub scanned-all : (below : ℕ) (t : Kept K V P S R) → length t.numbers ≤ below → IsScanned answers below t
      → ((r : Record K V) → record_at t.state.records r.number ≡ Some r → (i : ℕ) × (i < length t.numbers) × (kept_at t i ≡ Some r)) → NoneIsCovered answers t.state
  scanned-all below t most scanned stand r there =
      let p = stand r there in
      let within = p.1 in
      ap (λ o. is_covered_as answers t.state o) (sym p.2) ∙ scanned p.0 (omega (arith, most, within))

  -- a covered record that leaves makes a step
  pub covered-leaves : (now : ℕ) (s t : State K V P S R) (r : Record K V) → IsApplied s → record_at s.records r.number ≡ Some r → is_covered_as answers s (Some r) ≡ true → t ≡ left cause.Explicit r.number s → StepsFor answers now s t
  covered-leaves now s t r applied there covered after =
      let parts = and_parts r.is_held (is_covered answers s r.entry) covered in
      leaves r cause.Explicit applied there parts.0 parts.1 after

  -- ---- predicates

  -- where no held record is covered, no predicate covers any
  pub cover-none : (s : State K V P S R) → ∥ IsSound s ∥₁ → NoneIsCovered answers s → CoverNone answers s
  cover-none s sound none = each-from answers s.rules s.records s.predicates sound (λ k. each-covers_none answers s.rules s.predicates s.records
      (each-map (λ r. record_at s.records r.number ≡ Some r) (λ r. (r.is_held && list_any (λ p. is_covered_by answers s.rules p r.entry) s.predicates) ≡ false)
      (λ r there. others-not r.is_held (nat_lt r.entry.step s.cleared) (list_any (λ p. is_covered_by answers s.rules p r.entry) s.predicates) (none r there)) s.records (each-own s.records k.records.numbered)))

  -- nor is one of a step before the clear
  pub none-cleared : (s : State K V P S R) → NoneIsCovered answers s → NoneIsCleared s
  none-cleared s none r there held =
      ltb-false r.entry.step s.cleared (first-not true (nat_lt r.entry.step s.cleared) (list_any (λ p. is_covered_by answers s.rules p r.entry) s.predicates) (ap (λ b. b && is_covered answers s r.entry) (sym held) ∙ none r there))

  -- a predicate at a place of them goes
  pub predicate-ends : (now : ℕ) (s t : State K V P S R) (place : ℕ) (p : Registered P) → IsApplied s → slice_get s.predicates place ≡ Some p → CoverNone answers s → t ≡ record s { predicates = remove s.predicates place } → StepsFor answers now s t
  predicate-ends now s t place p applied there none after = ends place p applied there (covers-none_at answers s.rules s.records s.predicates place p there none) after

  pub cover-fewer : (s t : State K V P S R) (place : ℕ) (p : Registered P) → slice_get s.predicates place ≡ Some p → CoverNone answers s → t ≡ record s { predicates = remove s.predicates place } → CoverNone answers t
  cover-fewer s t place p there none after =
      subst (λ (x : State K V P S R). CoverNone answers x) (sym after) (covers-none_without answers s.rules s.records s.predicates place p there none)

pub last-there : {X : Type 0} (xs : List X) → 0 < length xs → (x : X) × (slice_get xs (length xs - 1) ≡ Some x)
last-there [] some = absurd (omega arith)
last-there (x ∷ xs) some = (get_or (x ∷ xs) (length (x ∷ xs) - 1) x, slice_get-get_or (x ∷ xs) (length (x ∷ xs) - 1) x (omega arith))

pub fewer-left : {X : Type 0} (xs : List X) (i : ℕ) → i < length xs → length (remove xs i) < length xs
fewer-left xs i less = let more = length-remove xs i less in omega (arith, more)
