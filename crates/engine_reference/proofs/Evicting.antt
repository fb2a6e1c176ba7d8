-- Evictions one after another take the shortest front that reaches the excess.
use Rattle.std.proofs.Common.{◌≡◌, refl, ap, sym, ◌∙◌, subst, ℕ, ◌+◌, ◌-◌, ◌<◌, ◌≤◌, arith, cond, not, List, [], ◌∷◌, Option, Some, None, inl, inr, ◌⊎◌, ◌==◌}
use Rattle.std.specs.Prelude.{fold}
use Rattle.std.proofs.lemmas.Bool.{cases_Bool, eq-eqb, ne_eqb, ltb-true}
use Rattle.engine_reference.specs.declared.rules.causes.RemovalCause.TheVariants as cause
use Rattle.engine_reference.specs.declared.data.Record.{Record}
use Rattle.engine_reference.specs.Admission.{is_above, shortest_front, with_first}
use Rattle.engine_reference.specs.Laws.{Evictions, EvictsShortestFront}
use Rattle.engine_reference.specs.Records.{record_at, without_record, without, settled_in, with_settled, is_settled, weight_at, admitted_weight}
use Rattle.engine_reference.specs.Runs.{left, with_left, first_of}
use Rattle.engine_reference.specs.Soundness.{IsIn, AreOnce, IsSound}
use Rattle.engine_reference.specs.State.{State}
use Rattle.engine_reference.proofs.HeldRecords.{record_at-number}
use Rattle.engine_reference.proofs.SoundSteps.{left-is_sound}
use Rattle.engine_reference.proofs.Unapplied.{record_at-without}
use Rattle.std.proofs.lemmas.Bool.Decides.{nat_tests}

pub without-none : (n : ℕ) (ns : List ℕ) → (IsIn n ns → ⊥) → without n ns ≡ ns
without-none n [] h = refl
without-none n (x ∷ ns) h = let next = without-none n ns (λ k. h (inr k)) in grind (arith, nat_tests, next)

module _ {K V : Type 0} where
  settled_in-without_none : (n : ℕ) (rs : List (Record K V)) (ns : List ℕ) → (IsIn n ns → ⊥) → settled_in (without_record n rs) ns ≡ settled_in rs ns
  settled_in-without_none n rs [] h = refl
  settled_in-without_none n rs (m ∷ ns) h =
      ap (λ o. with_settled o (settled_in (without_record n rs) ns)) (record_at-without n rs m (λ e. h (inl (sym e))))
      ∙ ap (λ l. with_settled (record_at rs m) l) (settled_in-without_none n rs ns (λ k. h (inr k)))

  -- the first settled record is on the access list
  pub first-listed : (rs : List (Record K V)) (ns : List ℕ) (r : Record K V) → first_of (settled_in rs ns) ≡ Some r → IsIn r.number ns
  first-listed rs [] r e = absurd (cc)
  first-listed rs (m ∷ ns) r e = go (record_at rs m) refl e (first-listed rs ns r)
    where
      go : (o : Option (Record K V)) → record_at rs m ≡ o → first_of (with_settled o (settled_in rs ns)) ≡ Some r → (first_of (settled_in rs ns) ≡ Some r → IsIn r.number ns) → (m ≡ r.number) ⊎ IsIn r.number ns
      go None there e later = inr (later e)
      go (Some x) there e later =
          elim (cases_Bool (is_settled x)) [
            | inl is ↦ let e = rw is at e in inl (let same : x ≡ r = cc in sym (record_at-number rs m x there) ∙ ap (λ y. y.number) same)
            | inr is ↦ let e = rw is at e in inr (later e)
          ]

  -- once it goes, the others are left in their order
  pub settled_in-left : (rs : List (Record K V)) (ns : List ℕ) (r : Record K V) → AreOnce ns → first_of (settled_in rs ns) ≡ Some r
      → settled_in rs ns ≡ r ∷ settled_in (without_record r.number rs) (without r.number ns)
  settled_in-left rs [] r once e = absurd (cc)
  settled_in-left rs (m ∷ ns) r once e = go (record_at rs m) refl e (settled_in-left rs ns r once.1)
    where
      rest : List (Record K V)
      rest = settled_in (without_record r.number rs) (without r.number ns)

      -- another number before it is passed over
      past : (first_of (settled_in rs ns) ≡ Some r) → with_settled (record_at rs m) (settled_in rs ns) ≡ settled_in rs ns → (with_settled (record_at rs m) rest ≡ rest)
          → settled_in rs ns ≡ r ∷ rest → settled_in rs (m ∷ ns) ≡ r ∷ settled_in (without_record r.number rs) (without r.number (m ∷ ns))
      past e skips skips_too later =
          let apart : (m ≡ r.number → ⊥) = λ same. once.0 (subst (λ k. IsIn k ns) (sym same) (first-listed rs ns r e)) in
          skips ∙ later ∙ ap (λ l. r ∷ l) (sym (
          ap (λ b. settled_in (without_record r.number rs) (cond (not b) (m ∷ without r.number ns) (without r.number ns))) (ne_eqb m r.number apart)
          ∙ ap (λ o. with_settled o rest) (record_at-without r.number rs m (λ same. apart (sym same)))
          ∙ skips_too))

      go : (o : Option (Record K V)) → record_at rs m ≡ o → first_of (with_settled o (settled_in rs ns)) ≡ Some r
          → (first_of (settled_in rs ns) ≡ Some r → settled_in rs ns ≡ r ∷ rest) → settled_in rs (m ∷ ns) ≡ r ∷ settled_in (without_record r.number rs) (without r.number (m ∷ ns))
      go None there e later = past e (ap (λ o. with_settled o (settled_in rs ns)) there) (ap (λ o. with_settled o rest) there) (later e)
      go (Some x) there e later =
          elim (cases_Bool (is_settled x)) [
            | inl is ↦ let e = rw is at e in let same : x ≡ r = cc in let number : r.number ≡ m = ap (λ y. y.number) (sym same) ∙ record_at-number rs m x there in let absent : (IsIn r.number ns → ⊥) = λ k. once.0 (subst (λ i. IsIn i ns) number k) in ap (λ o. with_settled o (settled_in rs ns)) there ∙ ap (λ b. cond b (x ∷ settled_in rs ns) (settled_in rs ns)) is ∙ ap (λ y. y ∷ settled_in rs ns) same ∙ ap (λ l. r ∷ l) (sym (ap (λ b. settled_in (without_record r.number rs) (cond (not b) (m ∷ without r.number ns) (without r.number ns))) (eq-eqb m r.number (sym number)) ∙ ap (λ l. settled_in (without_record r.number rs) l) (without-none r.number ns absent) ∙ settled_in-without_none r.number rs ns absent))
            | inr is ↦ let e = rw is at e in past e (ap (λ o. with_settled o (settled_in rs ns)) there ∙ ap (λ b. cond b (x ∷ settled_in rs ns) (settled_in rs ns)) is) (ap (λ o. with_settled o rest) there ∙ ap (λ b. cond b (x ∷ rest) rest) is) (later e)
          ]

  -- the weight without it
  pub weight_from : (rs : List (Record K V)) (a b : ℕ) → fold (λ w r. w + weight_at r) (a + b) rs ≡ a + fold (λ w r. w + weight_at r) b rs
  weight_from [] a b = refl
  weight_from (r ∷ rs) a b = ap (λ n. fold (λ w r. w + weight_at r) n rs) (let e : (a + b) + weight_at r ≡ a + (b + weight_at r) = omega arith in e) ∙ weight_from rs a (b + weight_at r)

  pub weight-without_from : (rs : List (Record K V)) (n : ℕ) (r : Record K V) (a : ℕ) → record_at rs n ≡ Some r
      → fold (λ w r. w + weight_at r) a rs ≡ weight_at r + fold (λ w r. w + weight_at r) a (without_record n rs)
  weight-without_from [] n r a there = absurd (cc)
  weight-without_from (x ∷ rs) n r a there =
      elim (cases_Bool (x.number == n)) [
        | inl is ↦ let e = rw is at there in let later = weight-without_from rs n r (a + weight_at x) in rw is (let same : x ≡ r = cc in ap (λ n. fold (λ w r. w + weight_at r) n rs) (let e : a + weight_at x ≡ weight_at x + a = omega arith in e) ∙ weight_from rs (weight_at x) a ∙ ap (λ y. weight_at y + fold (λ w r. w + weight_at r) a rs) same)
        | inr is ↦ let e = rw is at there in rw is ((weight-without_from rs n r (a + weight_at x)) e)
      ]

  pub weight-without : (rs : List (Record K V)) (n : ℕ) (r : Record K V) → record_at rs n ≡ Some r → admitted_weight rs ≡ weight_at r + admitted_weight (without_record n rs)
  weight-without rs n r there = weight-without_from rs n r 0 there

  -- the first settled record is found under its number
  pub first-there : (rs : List (Record K V)) (ns : List ℕ) (r : Record K V) → first_of (settled_in rs ns) ≡ Some r → record_at rs r.number ≡ Some r
  first-there rs [] r e = absurd (cc)
  first-there rs (m ∷ ns) r e = go (record_at rs m) refl e (first-there rs ns r)
    where
      go : (o : Option (Record K V)) → record_at rs m ≡ o → first_of (with_settled o (settled_in rs ns)) ≡ Some r → (first_of (settled_in rs ns) ≡ Some r → record_at rs r.number ≡ Some r) → record_at rs r.number ≡ Some r
      go None there e later = later e
      go (Some x) there e later =
          elim (cases_Bool (is_settled x)) [
            | inl is ↦ let e = rw is at e in let same : x ≡ r = cc in ap (λ y. record_at rs y.number) (sym same) ∙ ap (λ k. record_at rs k) (record_at-number rs m x there) ∙ there ∙ ap Some same
            | inr is ↦ let e = rw is at e in later e
          ]

  pub front-none : (xs : List (Record K V)) (w : ℕ) → w ≡ 0 → shortest_front w xs ≡ Some []
  front-none [] w e = ap (λ b. cond b (Some []) None) (eq-eqb w 0 e)
  front-none (x ∷ xs) w e = ap (λ b. cond b (Some []) (with_first x (shortest_front (w - weight_at x) xs))) (eq-eqb w 0 e)

module _ (K V P S R : Type 0) where
  pub evicts_shortest_front : EvictsShortestFront K V P S R
  evicts_shortest_front s t [] capacity sound is_set e within =
      let fits : admitted_weight s.records ≤ capacity = subst (λ x. admitted_weight x.records ≤ capacity) e within in
      front-none (settled_in s.records s.access) (admitted_weight s.records - capacity) (omega arith)
  evicts_shortest_front s t (r ∷ rs) capacity sound is_set e within =
      let above : capacity < admitted_weight s.records = ltb-true capacity (admitted_weight s.records) (sym (ap (λ c. is_above c (admitted_weight s.records)) is_set) ∙ e.0) in
      let there = first-there s.records s.access r e.1 in
      let next : State K V P S R = with_left cause.Size s (Some r) in
      let same : left cause.Size r.number s ≡ next = ap (λ o. with_left cause.Size s o) there in
      let later : shortest_front (admitted_weight next.records - capacity) (settled_in next.records next.access) ≡ Some rs =
      evicts_shortest_front next t rs capacity (subst (λ x. IsSound x) same (left-is_sound cause.Size r.number s sound)) is_set (subst (λ x. Evictions K V P S R x rs t) same e.2) within in
      let weight = weight-without s.records r.number r there in
      let less : (admitted_weight s.records - capacity) - weight_at r ≡ admitted_weight next.records - capacity = omega arith in
      let excess : (admitted_weight s.records - capacity ≡ 0 → ⊥) = λ z. omega arith in
      ap (λ xs. shortest_front (admitted_weight s.records - capacity) xs) (settled_in-left s.records s.access r sound.records.once e.1)
      ∙ ap (λ b. cond b (Some []) (with_first r (shortest_front ((admitted_weight s.records - capacity) - weight_at r) (settled_in next.records next.access)))) (ne_eqb (admitted_weight s.records - capacity) 0 excess)
      ∙ ap (λ w. with_first r (shortest_front w (settled_in next.records next.access))) less
      ∙ ap (λ o. with_first r o) later
