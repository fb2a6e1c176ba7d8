-- Records with an unapplied write stay.
use Rattle.std.proofs.Common.{arith, ◌≡◌, refl, ap, sym, ◌∙◌, ℕ, ◌+◌, Bool, true, false, true≢false, cond, List, [], ◌∷◌, Option, Some, None, is_some, inl, inr, ◌⊎◌, eqb, ◌==◌}
use Rattle.std.specs.Prelude.{nat_lt}
use Rattle.std.proofs.lemmas.Bool.{cond_both, cases_Bool}
use Rattle.engine_reference.specs.declared.rules.causes.RemovalCause.{RemovalCause}
use Rattle.engine_reference.specs.declared.rules.causes.RemovalCause.TheVariants as cause
use Rattle.engine_reference.specs.declared.data.Record.{Record}
use Rattle.engine_reference.specs.declared.data.Upsert.{Upsert}
use Rattle.engine_reference.specs.Admission.{Verdict, admit, displace, refuse, verdict, verdict_of_full, is_above, contest, shortest_front, with_first, frequencies}
use Rattle.engine_reference.specs.Laws.{IsStill, UnappliedStay}
use Rattle.engine_reference.specs.Records.{record_at, without_record, changed_at, is_settled, settled_in, with_settled, admitted_weight}
use Rattle.engine_reference.specs.Runs.{with_left, left, all_left, after_put, counting, put_off, judged, is_overtaken, first_of}
use Rattle.engine_reference.specs.State.{State}
use Rattle.std.specs.Prelude.{◌-◌}
use Rattle.engine_reference.specs.Records.{weight_at}
use Rattle.engine_reference.proofs.HeldRecords.{record_at-number}
use Rattle.policy_base.specs.Counts.{frequency_of}
use Rattle.engine_reference.specs.declared.rules.settings.EvictionPolicy.{EvictionPolicy}
use Rattle.engine_reference.specs.declared.rules.settings.EvictionPolicy.TheVariants.{TinyLfu, Lru}
use Rattle.std.proofs.lemmas.Bool.Decides.{nat_tests}

module _ {K V : Type 0} where
  pub record_at-changed : (m : ℕ) (change : Record K V → Record K V) → ((x : Record K V) → (change x).number ≡ x.number) → (rs : List (Record K V)) (n : ℕ) (r : Record K V) → record_at rs n ≡ Some r
      → (record_at (changed_at m change rs) n ≡ Some r) ⊎ (record_at (changed_at m change rs) n ≡ Some (change r))
  record_at-changed m change same [] n r h = absurd (cc)
  record_at-changed m change same (x ∷ rs) n r h = go (x.number == m) (x.number == n) refl h (record_at-changed m change same rs n r)
    where
      go : (b c : Bool) → eqb x.number n ≡ c → cond c (Some x) (record_at rs n) ≡ Some r
          → (record_at rs n ≡ Some r → (record_at (changed_at m change rs) n ≡ Some r) ⊎ (record_at (changed_at m change rs) n ≡ Some (change r)))
          → (record_at (cond b (change x ∷ rs) (x ∷ changed_at m change rs)) n ≡ Some r) ⊎ (record_at (cond b (change x ∷ rs) (x ∷ changed_at m change rs)) n ≡ Some (change r))
      go true true t h later = inr (ap (λ k. cond (eqb k n) (Some (change x)) (record_at rs n)) (same x) ∙ ap (λ b. cond b (Some (change x)) (record_at rs n)) t ∙ (let e : x ≡ r = cc in ap (λ y. Some (change y)) e))
      go true false t h later = inl (ap (λ k. cond (eqb k n) (Some (change x)) (record_at rs n)) (same x) ∙ ap (λ b. cond b (Some (change x)) (record_at rs n)) t ∙ h)
      go false true t h later = inl (ap (λ b. cond b (Some x) (record_at (changed_at m change rs) n)) t ∙ h)
      go false false t h later =
          let skip = ap (λ b. cond b (Some x) (record_at (changed_at m change rs) n)) t in
          elim (later h) [ inl e ↦ inl (skip ∙ e) | inr e ↦ inr (skip ∙ e) ]

  pub record_at-without : (m : ℕ) (rs : List (Record K V)) (n : ℕ) → (m ≡ n → ⊥) → record_at (without_record m rs) n ≡ record_at rs n
  record_at-without m [] n apart = refl
  record_at-without m (x ∷ rs) n apart = let next = record_at-without m rs n apart in grind (arith, nat_tests, next)

  -- what stands in the list of settled records is settled, and found under its number
  abbrev pub AllSettled : List (Record K V) → List (Record K V) → Type 0
  AllSettled rs [] = Unit {0}
  AllSettled rs (x ∷ xs) = (is_settled x ≡ true) × (record_at rs x.number ≡ Some x) × AllSettled rs xs

  pub settled_in-settled : (rs : List (Record K V)) (ns : List ℕ) → AllSettled rs (settled_in rs ns)
  settled_in-settled rs [] = tt
  settled_in-settled rs (n ∷ ns) = go (record_at rs n) refl (settled_in-settled rs ns)
    where
      go : (o : Option (Record K V)) → record_at rs n ≡ o → AllSettled rs (settled_in rs ns) → AllSettled rs (with_settled o (settled_in rs ns))
      go None e rest = rest
      go (Some x) e rest = cond_both (is_settled x) _ _ (AllSettled rs) (λ is. (is, ap (λ k. record_at rs k) (record_at-number rs n x e) ∙ e, rest)) (λ _. rest)

  pub front-settled : (rs : List (Record K V)) (weight : ℕ) (xs vs : List (Record K V)) → AllSettled rs xs → shortest_front weight xs ≡ Some vs → AllSettled rs vs
  front-settled rs weight [] vs h e = elim (cases_Bool (weight == 0)) [ inl is ↦ let none : vs ≡ [] = cc in rw none tt | inr is ↦ absurd (cc) ]
  front-settled rs weight (x ∷ xs) vs h e =
      elim (cases_Bool (weight == 0)) [
        | inl is ↦ let none : vs ≡ [] = cc in rw none tt
        | inr is ↦ rest (λ ws t. front-settled rs (weight - weight_at x) xs ws h.2 t) (shortest_front (weight - weight_at x) xs) refl (rw is at e)
      ]
    where
      rest : ((ws : List (Record K V)) → shortest_front (weight - weight_at x) xs ≡ Some ws → AllSettled rs ws) → (o : Option (List (Record K V))) → shortest_front (weight - weight_at x) xs ≡ o → with_first x o ≡ Some vs → AllSettled rs vs
      rest before None t e = absurd (cc)
      rest before (Some ws) t e = let same : vs ≡ x ∷ ws = cc in rw same (h.0, h.1, before ws t)

  -- a settled record is not one that is not settled
  pub other_number : (rs : List (Record K V)) (x r : Record K V) (n : ℕ) → is_settled x ≡ true → record_at rs x.number ≡ Some x → record_at rs n ≡ Some r → is_settled r ≡ false → x.number ≡ n → ⊥
  other_number rs x r n t there h f same =
      let both : Some x ≡ Some r = sym there ∙ ap (λ k. record_at rs k) same ∙ h in
      let one : x ≡ r = cc in
      true≢false (sym t ∙ ap (λ y. is_settled y) one ∙ f)

module _ {K V : Type 0} where
  pub first-settled : (rs : List (Record K V)) (xs : List (Record K V)) (v : Record K V) → AllSettled rs xs → first_of xs ≡ Some v → (is_settled v ≡ true) × (record_at rs v.number ≡ Some v)
  first-settled rs [] v h e = absurd (cc)
  first-settled rs (x ∷ xs) v h e = let same : x ≡ v = cc in rw (← same) (h.0, h.1)

module _ {K V P S R : Type 0} where
  IsStill-left : (why : RemovalCause) (s : State K V P S R) (number : ℕ) (r : Record K V) (m : ℕ) → (m ≡ number → ⊥) → IsStill K V P S R number r s → IsStill K V P S R number r (left why m s)
  IsStill-left why s number r m apart h = go (record_at s.records m) refl
    where
      go : (o : Option (Record K V)) → record_at s.records m ≡ o → IsStill K V P S R number r (with_left why s o)
      go None e = h
      go (Some x) e = record {
        current = h.current;
        there = record_at-without x.number s.records number (λ same. apart (sym (record_at-number s.records m x e) ∙ same)) ∙ h.there;
        entry = h.entry;
        held = h.held;
      }

  IsStill-all_left : (why : RemovalCause) (rs : List (Record K V)) (vs : List (Record K V)) (s : State K V P S R) (number : ℕ) (r : Record K V)
      → record_at rs number ≡ Some r → is_settled r ≡ false → AllSettled rs vs → IsStill K V P S R number r s → IsStill K V P S R number r (all_left why vs s)
  IsStill-all_left why rs [] s number r there f h still = still
  IsStill-all_left why rs (v ∷ vs) s number r there f h still =
      IsStill-all_left why rs vs (left why v.number s) number r there f h.2
      (IsStill-left why s number r v.number (other_number rs v r number h.0 h.1 there f) still)

  IsStill-changed : (m : ℕ) (change : Record K V → Record K V) → ((x : Record K V) → (change x).number ≡ x.number) → ((x : Record K V) → (change x).entry ≡ x.entry) → ((x : Record K V) → (change x).is_held ≡ x.is_held)
      → (s t : State K V P S R) (number : ℕ) (r : Record K V) → t.records ≡ changed_at m change s.records → IsStill K V P S R number r s → IsStill K V P S R number r t
  IsStill-changed m change number_is entry_is held_is s t number r e h =
      elim (record_at-changed m change number_is s.records number h.current h.there) [
        | inl there ↦ record { current = h.current; there = ap (λ rs. record_at rs number) e ∙ there; entry = h.entry; held = h.held }
        | inr there ↦ record { current = change h.current; there = ap (λ rs. record_at rs number) e ∙ there; entry = entry_is h.current ∙ h.entry; held = held_is h.current ∙ h.held }
      ]

  IsStill-counting : (u : Upsert) (s : State K V P S R) (number : ℕ) (r : Record K V) → IsStill K V P S R number r s → IsStill K V P S R number r (counting u s)
  IsStill-counting u s number r h = IsStill-changed u.number (λ x. record x { applied = u.write; counts = Some u.weight }) (λ x. refl) (λ x. refl) (λ x. refl) s (counting u s) number r refl h

  -- the victims of a verdict are settled
  victims-settled : (s : State K V P S R) (u : Upsert) (vs : List (Record K V)) → verdict s u ≡ displace vs → AllSettled s.records vs
  victims-settled s u vs e = elim (cases_Bool (is_above s.settings.capacity (admitted_weight s.records + u.weight))) [
    | inl above ↦
        let full = rw above at e in
        elim (cases_Bool (is_above s.settings.capacity u.weight)) [ inl is ↦ let none = rw is at full in absurd (cc) | inr is ↦ by_policy s.settings.policy (rw is at full) ]
    | inr below ↦ let none = rw below at e in absurd (cc)
  ]
    where
      settled : List (Record K V)
      settled = settled_in s.records s.access

      by_front : (o : Option (List (Record K V))) → shortest_front u.weight settled ≡ o → contest s.sketch u.hash o ≡ displace vs → AllSettled s.records vs
      by_front None t e = absurd (cc)
      by_front (Some front) t e =
          elim (cases_Bool (nat_lt (frequencies s.sketch front) (frequency_of s.sketch u.hash))) [
            | inl is ↦ let same : front ≡ vs = cc in front-settled s.records u.weight settled vs (settled_in-settled s.records s.access) (t ∙ ap Some same)
            | inr is ↦ absurd (cc)
          ]

      by_policy : (policy : EvictionPolicy) → verdict_of_full policy s.sketch u settled ≡ displace vs → AllSettled s.records vs
      by_policy Lru e = absurd (cc)
      by_policy TinyLfu e = by_front (shortest_front u.weight settled) refl e

  module _ (s : State K V P S R) (u : Upsert) (number : ℕ) (r : Record K V) (there : record_at s.records number ≡ Some r) (f : is_settled r ≡ false) (later : u.number ≡ number → is_overtaken u r ≡ true) where
    still : IsStill K V P S R number r s
    still = record { current = r; there = there; entry = refl; held = refl }

    IsStill-judged : (x : Record K V) → record_at s.records u.number ≡ Some x → (v : Verdict K V) → verdict s u ≡ v → IsStill K V P S R number r (judged u x s v)
    IsStill-judged x here admit e = IsStill-counting u s number r still
    IsStill-judged x here (displace vs) e =
        IsStill-counting u (all_left cause.Size vs s) number r (IsStill-all_left cause.Size s.records vs s number r there f (victims-settled s u vs e) still)
    IsStill-judged x here refuse e =
        cond_both (is_overtaken u x) _ _ (IsStill K V P S R number r) (λ _. IsStill-changed u.number (λ x. record x { applied = u.write }) (λ x. refl) (λ x. refl) (λ x. refl) s (put_off u s) number r refl still) (λ is. IsStill-left cause.Size s number r u.number (λ same. let both : Some x ≡ Some r = sym here ∙ ap (λ k. record_at s.records k) same ∙ there in let one : x ≡ r = cc in true≢false (sym (later same) ∙ ap (λ y. is_overtaken u y) (sym one) ∙ is)) still)

    IsStill-after_put : (o : Option (Record K V)) → record_at s.records u.number ≡ o → IsStill K V P S R number r (after_put u o s)
    IsStill-after_put None here = still
    IsStill-after_put (Some x) here =
        let Same = IsStill K V P S R number r in
        cond_both (nat_lt x.applied u.write) _ _ Same (λ _. cond_both (is_some x.counts) _ _ Same (λ _. IsStill-counting u s number r still) (λ _. IsStill-judged x here (verdict s u) refl)) (λ _. still)

module _ (K V P S R : Type 0) where
  pub unapplied_stay : UnappliedStay K V P S R
  unapplied_stay = record {
    writes = λ s u number r there f later. IsStill-after_put s u number r there f later (record_at s.records u.number) refl;
    excess = λ s victim number r there f next.
        let v = first-settled s.records (settled_in s.records s.access) victim (settled_in-settled s.records s.access) next in
        IsStill-left cause.Size s number r victim.number (other_number s.records victim r number v.0 v.1 there f) (record { current = r; there = there; entry = refl; held = refl });
  }
