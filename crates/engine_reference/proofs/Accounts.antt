-- Records that are accounted for stay so as writes are applied.
use Rattle.std.proofs.Common.{◌≡◌, refl, ap, sym, ◌∙◌, subst, ℕ, ◌<◌, arith, Bool, true, false, true≢false, cond, not, List, [], ◌∷◌, ◌++◌, Option, Some, None, inl, inr, ◌⊎◌, eqb, ◌==◌}
use Rattle.std.specs.Prelude.{nat_lt}
use Rattle.std.proofs.lemmas.Bool.{cond_both, cases_Bool, eqb-true, eqb-false, cases_eq, ltb-true, or_cases, not-true}
use Rattle.engine_reference.specs.declared.data.Record.{Record}
use Rattle.engine_reference.specs.declared.data.Unsent.{Unsent}
use Rattle.engine_reference.specs.declared.data.Upsert.{Upsert}
use Rattle.engine_reference.specs.declared.data.Write.{Write}
use Rattle.engine_reference.specs.declared.data.Write.TheVariants.{Put, Removed}
use Rattle.engine_reference.specs.Records.{record_at, without_record, changed_at, without, moved_to_back}
use Rattle.engine_reference.specs.Runs.{is_overtaken}
use Rattle.engine_reference.specs.Soundness.{AreOnce, IsIn, number_of, IsPending, Each, AreNumbered, IsLastOf, Fits, IsAccounted}
use Rattle.std.proofs.lemmas.Bool.Decides.{nat_tests}

-- what a choice gives that is none
pub cond_none : {A : Type 0} (b : Bool) (x : A) (o : Option A) → cond b (Some x) o ≡ None → (b ≡ false) × (o ≡ None)
cond_none true x o h = absurd (cc)
cond_none false x o h = (refl, h)

-- ---- lists of numbers

-- another number stays
pub IsIn-without : (n m : ℕ) (ns : List ℕ) → (m ≡ n → ⊥) → IsIn m ns → IsIn m (without n ns)
IsIn-without n m [] apart h = h
IsIn-without n m (x ∷ ns) apart h = let next = IsIn-without n m ns apart in grind (arith, nat_tests, h, next)

pub IsIn-append_left : {X : Type 0} (x : X) (xs ys : List X) → IsIn x xs → IsIn x (xs ++ ys)
IsIn-append_left x [] ys h = elim h [ ]
IsIn-append_left x (y ∷ xs) ys (inl e) = inl e
IsIn-append_left x (y ∷ xs) ys (inr h) = inr (IsIn-append_left x xs ys h)

pub IsIn-append_right : {X : Type 0} (x : X) (xs ys : List X) → IsIn x ys → IsIn x (xs ++ ys)
IsIn-append_right x [] ys h = h
IsIn-append_right x (y ∷ xs) ys h = inr (IsIn-append_right x xs ys h)

pub IsIn-moved : (n m : ℕ) (ns : List ℕ) → IsIn m ns → IsIn m (moved_to_back n ns)
IsIn-moved n m ns h = elim (cases_eq m n) [
  | inl same ↦ IsIn-append_right m (without n ns) (n ∷ []) (inl (sym same))
  | inr apart ↦ IsIn-append_left m (without n ns) (n ∷ []) (IsIn-without n m ns apart h)
]

-- ---- no number twice

pub IsIn-without_from : (n m : ℕ) (ns : List ℕ) → IsIn m (without n ns) → IsIn m ns
IsIn-without_from n m [] h = h
IsIn-without_from n m (x ∷ ns) h = let next = IsIn-without_from n m ns in grind (arith, nat_tests, h, next)

pub not_in-without : (n : ℕ) (ns : List ℕ) → IsIn n (without n ns) → ⊥
not_in-without n [] h = h
not_in-without n (x ∷ ns) h = let next = not_in-without n ns in grind (arith, nat_tests, h, next)

pub once-without : (n : ℕ) (ns : List ℕ) → AreOnce ns → AreOnce (without n ns)
once-without n [] h = tt
once-without n (x ∷ ns) h = elim (cases_Bool (x == n)) [ inl e ↦ rw e (once-without n ns h.1) | inr e ↦ rw e ((λ k. h.0 (IsIn-without_from n x ns k)), (once-without n ns h.1)) ]

pub in_pushed : (n m : ℕ) (ns : List ℕ) → IsIn m (ns ++ n ∷ []) → IsIn m ns ⊎ (n ≡ m)
in_pushed n m [] (inl e) = inr e
in_pushed n m [] (inr h) = elim h [ ]
in_pushed n m (x ∷ ns) (inl e) = inl (inl e)
in_pushed n m (x ∷ ns) (inr h) = elim (in_pushed n m ns h) [ inl k ↦ inl (inr k) | inr e ↦ inr e ]

once-push : (n : ℕ) (ns : List ℕ) → AreOnce ns → (IsIn n ns → ⊥) → AreOnce (ns ++ n ∷ [])
once-push n [] h other = ((λ k. k), tt)
once-push n (x ∷ ns) h other = ((λ k. elim (in_pushed n x ns k) [ inl l ↦ h.0 l | inr e ↦ other (inl (sym e)) ]), once-push n ns h.1 (λ k. other (inr k)))

pub once-moved : (n : ℕ) (ns : List ℕ) → AreOnce ns → AreOnce (moved_to_back n ns)
once-moved n ns h = once-push n (without n ns) (once-without n ns h) (not_in-without n ns)

-- ---- what is pending

module _ (unsent : List Unsent) (rest : List Write) where
  -- another pending write is still pending
  pub still_pending : (w v : Write) → ((w ≡ v) → ⊥) → IsPending unsent (w ∷ rest) v → IsPending unsent rest v
  still_pending w v other (inl h) = inl h
  still_pending w v other (inr (inl e)) = absurd (other e)
  still_pending w v other (inr (inr h)) = inr h

  pub was_pending : (w v : Write) → IsPending unsent rest v → IsPending unsent (w ∷ rest) v
  was_pending w v (inl h) = inl h
  was_pending w v (inr h) = inr (inr h)

-- ---- lists of records

module _ {K V : Type 0} where
  pub each-map : (P Q : Record K V → Type 0) → ((r : Record K V) → P r → Q r) → (rs : List (Record K V)) → Each P rs → Each Q rs
  each-map P Q f [] h = tt
  each-map P Q f (r ∷ rs) h = (f r h.0, each-map P Q f rs h.1)

  pub each-both : (P Q : Record K V → Type 0) (rs : List (Record K V)) → Each P rs → Each Q rs → Each (λ r. P r × Q r) rs
  each-both P Q [] h k = tt
  each-both P Q (r ∷ rs) h k = ((h.0, k.0), each-both P Q rs h.1 k.1)

  pub none_there : (n : ℕ) (rs : List (Record K V)) → record_at rs n ≡ None → Each (λ r. r.number ≡ n → ⊥) rs
  none_there n [] h = tt
  none_there n (r ∷ rs) h =
      let p = cond_none (eqb r.number n) r (record_at rs n) h in
      (eqb-false r.number n p.0, none_there n rs p.1)

  pub only_one : (n : ℕ) (x : Record K V) (rs : List (Record K V)) → AreNumbered rs → record_at rs n ≡ Some x → Each (λ r. r.number ≡ n → r ≡ x) rs
  only_one n x [] numbered there = tt
  only_one n x (r ∷ rs) numbered there = elim (cases_Bool (r.number == n)) [
    | inl t ↦
        let here = rw t at there in
        let one : r ≡ x = cc in
        let rest = none_there n rs (ap (λ k. record_at rs k) (sym (eqb-true r.number n t)) ∙ numbered.0) in
        ((λ e. one), each-map (λ r. r.number ≡ n → ⊥) (λ r. r.number ≡ n → r ≡ x) (λ r other e. absurd (other e)) rs rest)
    | inr t ↦ ((λ e. absurd (eqb-false r.number n t e)), only_one n x rs numbered.1 (rw t at there))
  ]

  pub record_at-changed_none : (n m : ℕ) (change : Record K V → Record K V) → ((x : Record K V) → (change x).number ≡ x.number) → (rs : List (Record K V)) → record_at rs m ≡ None → record_at (changed_at n change rs) m ≡ None
  record_at-changed_none n m change same [] h = refl
  record_at-changed_none n m change same (r ∷ rs) h =
      let p = cond_none (eqb r.number m) r (record_at rs m) h in
      cond_both (r.number == n) _ _ (λ z. record_at z m ≡ None) (λ _. ap (λ k. cond (eqb k m) (Some (change r)) (record_at rs m)) (same r) ∙ ap (λ b. cond b (Some (change r)) (record_at rs m)) p.0 ∙ p.1) (λ _. ap (λ b. cond b (Some r) (record_at (changed_at n change rs) m)) p.0 ∙ (record_at-changed_none n m change same rs p.1))

  pub numbered-changed : (n : ℕ) (change : Record K V → Record K V) → ((x : Record K V) → (change x).number ≡ x.number) → (rs : List (Record K V)) → AreNumbered rs → AreNumbered (changed_at n change rs)
  numbered-changed n change same [] h = tt
  numbered-changed n change same (r ∷ rs) h =
      cond_both (r.number == n) _ _ AreNumbered (λ _. (ap (λ k. record_at rs k) (same r) ∙ h.0, h.1)) (λ _. (record_at-changed_none n r.number change same rs h.0, (numbered-changed n change same rs h.1)))

  record_at-without_none : (n m : ℕ) (rs : List (Record K V)) → record_at rs m ≡ None → record_at (without_record n rs) m ≡ None
  record_at-without_none n m [] h = refl
  record_at-without_none n m (r ∷ rs) h =
      let p = cond_none (eqb r.number m) r (record_at rs m) h in
      elim (cases_Bool (r.number == n)) [ inl e ↦ rw e p.1 | inr e ↦ rw e (ap (λ b. cond b (Some r) (record_at (without_record n rs) m)) p.0 ∙ (record_at-without_none n m rs p.1)) ]

  pub numbered-without : (n : ℕ) (rs : List (Record K V)) → AreNumbered rs → AreNumbered (without_record n rs)
  numbered-without n [] h = tt
  numbered-without n (r ∷ rs) h = cond_both (r.number == n) _ _ AreNumbered (λ _. h.1) (λ _. (record_at-without_none n r.number rs h.0, (numbered-without n rs h.1)))

  pub each-changed : (n : ℕ) (change : Record K V → Record K V) (P Q : Record K V → Type 0) → ((r : Record K V) → r.number ≡ n → P r → Q (change r)) → ((r : Record K V) → (r.number ≡ n → ⊥) → P r → Q r)
      → (rs : List (Record K V)) → AreNumbered rs → Each P rs → Each Q (changed_at n change rs)
  each-changed n change P Q own other [] numbered h = tt
  each-changed n change P Q own other (r ∷ rs) numbered h =
      cond_both (r.number == n) _ _ (Each Q) (λ e. let same = eqb-true r.number n e in let rest = none_there n rs (ap (λ k. record_at rs k) (sym same) ∙ numbered.0) in (own r same h.0, each-map (λ x. P x × (x.number ≡ n → ⊥)) Q (λ x k. other x k.1 k.0) rs (each-both P (λ x. x.number ≡ n → ⊥) rs h.1 rest))) (λ e. (other r (eqb-false r.number n e) h.0, (each-changed n change P Q own other rs numbered.1 h.1)))

  pub each-without : (n : ℕ) (P Q : Record K V → Type 0) → ((r : Record K V) → (r.number ≡ n → ⊥) → P r → Q r) → (rs : List (Record K V)) → AreNumbered rs → Each P rs → Each Q (without_record n rs)
  each-without n P Q other [] numbered h = tt
  each-without n P Q other (r ∷ rs) numbered h =
      cond_both (r.number == n) _ _ (Each Q) (λ e. let same = eqb-true r.number n e in let rest = none_there n rs (ap (λ k. record_at rs k) (sym same) ∙ numbered.0) in each-map (λ x. P x × (x.number ≡ n → ⊥)) Q (λ x k. other x k.1 k.0) rs (each-both P (λ x. x.number ≡ n → ⊥) rs h.1 rest)) (λ e. (other r (eqb-false r.number n e) h.0, (each-without n P Q other rs numbered.1 h.1)))

  -- ---- one record, as the oldest write is taken off

  last_number : (w : Write) (r : Record K V) → IsLastOf w r → number_of w ≡ r.number
  last_number (Put u) r h = h.0
  last_number (Removed number) r h = h.0

  -- bookkeeping changes neither which write is the last nor what writes fit
  last-kept : (w : Write) (r : Record K V) (applied : ℕ) (counts : Option ℕ) → IsLastOf w r → IsLastOf w (record r { applied = applied; counts = counts })
  last-kept (Put u) r applied counts h = h
  last-kept (Removed number) r applied counts h = h

  fits-kept : (w : Write) (r : Record K V) (applied : ℕ) (counts : Option ℕ) → Fits w r → Fits w (record r { applied = applied; counts = counts })
  fits-kept (Put u) r applied counts h = λ e. record { earlier = (h e).earlier; last = (h e).last }
  fits-kept (Removed number) r applied counts h = h

  module _ (unsent : List Unsent) (rest : List Write) where
    -- a record of which it is not the last
    pub popped : (w : Write) (r : Record K V) → ((r.applied ≡ r.writes → ⊥) → IsLastOf w r → ⊥) → IsAccounted unsent (w ∷ rest) r → IsAccounted unsent rest r
    popped w r not_last h = record {
      applied = h.applied;
      counts = h.counts;
      waits = λ unsettled. let l = h.waits unsettled in (l.0, still_pending unsent rest w l.0 (λ e. not_last unsettled (subst (λ z. IsLastOf z r) (sym e) l.2)) l.1, l.2);
      fits = λ v p. h.fits v (was_pending unsent rest w v p);
    }

    pub popped_other : (w : Write) (r : Record K V) → (r.number ≡ number_of w → ⊥) → IsAccounted unsent (w ∷ rest) r → IsAccounted unsent rest r
    popped_other w r other h = popped w r (λ unsettled last. other (sym (last_number w r last))) h

    -- a record that it is of, and that has seen no later one
    pub popped_counts : (u : Upsert) (r : Record K V) → r.number ≡ u.number → r.applied < u.write → IsAccounted unsent (Put u ∷ rest) r
        → IsAccounted unsent rest (record r { applied = u.write; counts = Some u.weight })
    popped_counts u r same newer h =
        let fit = h.fits (Put u) (inr (inl refl)) (sym same) in
        let upper = fit.earlier in
        record {
          applied = fit.earlier;
          counts = λ e. let l = fit.last e in (l.0, ap Some l.1);
          waits = λ unsettled.
              let l = h.waits (λ e. omega arith) in
              (l.0, still_pending unsent rest (Put u) l.0 (λ e. let last : IsLastOf (Put u) r = subst (λ z. IsLastOf z r) (sym e) l.2 in unsettled last.1) l.1, last-kept l.0 r u.write (Some u.weight) l.2);
          fits = λ v p. fits-kept v r u.write (Some u.weight) (h.fits v (was_pending unsent rest (Put u) v p));
        }

    pub popped_put_off : (u : Upsert) (r : Record K V) → r.number ≡ u.number → r.applied < u.write → is_overtaken u r ≡ true → IsAccounted unsent (Put u ∷ rest) r
        → IsAccounted unsent rest (record r { applied = u.write })
    popped_put_off u r same newer overtaken h =
        let fit = h.fits (Put u) (inr (inl refl)) (sym same) in
        let upper = fit.earlier in
        let not_last : (u.write ≡ r.writes → ⊥) = λ e. not_overtaken (fit.last e).0 e (or_cases (not r.is_held) (nat_lt u.write r.writes) overtaken) in
        record {
          applied = fit.earlier;
          counts = λ e. absurd (not_last e);
          waits = λ unsettled.
              let l = h.waits (λ e. omega arith) in
              (l.0, still_pending unsent rest (Put u) l.0 (λ e. let last : IsLastOf (Put u) r = subst (λ z. IsLastOf z r) (sym e) l.2 in unsettled last.1) l.1, last-kept l.0 r u.write r.counts l.2);
          fits = λ v p. fits-kept v r u.write r.counts (h.fits v (was_pending unsent rest (Put u) v p));
        }
      where
        not_overtaken : r.is_held ≡ true → u.write ≡ r.writes → (not r.is_held ≡ true) ⊎ (nat_lt u.write r.writes ≡ true) → ⊥
        not_overtaken held e (inl out) = true≢false (sym held ∙ not-true r.is_held out)
        not_overtaken held e (inr less) = let lt = ltb-true u.write r.writes less in omega arith
