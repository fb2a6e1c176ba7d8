-- Lists of records that are part of others, with weights that are no greater: what counts is no more, also after further writes.
use Rattle.std.proofs.Common.{◌≡◌, refl, ap, sym, ◌∙◌, subst, ℕ, ◌+◌, ◌≤◌, arith, Bool, true, false, cond, List, [], ◌∷◌, Some, None, inl, inr, ◌⊎◌, eqb}
use Rattle.std.specs.Prelude.{fold, unwrap_or}
use Rattle.std.proofs.lemmas.Bool.{cond_both, cases_Bool, eqb-true, ne_eqb, eqb-false}
use Rattle.engine_reference.specs.declared.data.Record.{Record}
use Rattle.engine_reference.specs.declared.data.Upsert.{Upsert}
use Rattle.engine_reference.specs.declared.data.Write.{Write}
use Rattle.engine_reference.specs.declared.data.Write.TheVariants.{Put, Removed}
use Rattle.engine_reference.specs.Records.{record_at, without_record, changed_at, weight_at, admitted_weight}
use Rattle.engine_reference.specs.Soundness.{AreNumbered}
use Rattle.engine_reference.proofs.Evicting.{weight_from}
use Rattle.engine_reference.proofs.Accounts.{cond_none, numbered-changed, numbered-without}
use Rattle.engine_reference.specs.RunLaws.Points.{with_write, IsKeptBy, AreKept}

kept-less : (w : Write) (a b : ℕ) → a ≤ b → IsKeptBy w b → IsKeptBy w a
kept-less (Put u) a b less h = omega arith
kept-less (Removed n) a b less h = tt

module _ {K V : Type 0} where
  abbrev pub Fewer : List (Record K V) → List (Record K V) → Type 0
  Fewer [] rs = Unit {0}
  Fewer (x ∷ xs) [] = ⊥
  Fewer (x ∷ xs) (r ∷ rs) = ((x.number ≡ r.number) × (weight_at x ≤ weight_at r) × Fewer xs rs) ⊎ Fewer (x ∷ xs) rs

  pub fewer-refl : (rs : List (Record K V)) → Fewer rs rs
  fewer-refl [] = tt
  fewer-refl (r ∷ rs) = inl (refl, omega arith, fewer-refl rs)

  pub fewer-more : (r : Record K V) (xs rs : List (Record K V)) → Fewer xs rs → Fewer xs (r ∷ rs)
  fewer-more r [] rs h = tt
  fewer-more r (x ∷ xs) rs h = inr h

  -- ---- the weight

  pub weight-cons : (r : Record K V) (rs : List (Record K V)) → admitted_weight (r ∷ rs) ≡ weight_at r + admitted_weight rs
  weight-cons r rs = ap (λ n. fold (λ w r. w + weight_at r) n rs) (let e : 0 + weight_at r ≡ weight_at r + 0 = omega arith in e) ∙ weight_from rs (weight_at r) 0

  pub fewer-weight : (xs rs : List (Record K V)) → Fewer xs rs → admitted_weight xs ≤ admitted_weight rs
  fewer-weight [] rs h = omega arith
  fewer-weight (x ∷ xs) [] h = elim h [ ]
  fewer-weight (x ∷ xs) (r ∷ rs) (inl h) =
      let later = fewer-weight xs rs h.2 in
      let less = h.1 in
      omega (arith, weight-cons x xs, weight-cons r rs)
  fewer-weight (x ∷ xs) (r ∷ rs) (inr h) =
      let later = fewer-weight (x ∷ xs) rs h in
      omega (arith, weight-cons r rs)

  -- ---- a record that is not there

  head-number : (x : Record K V) (xs rs : List (Record K V)) → Fewer (x ∷ xs) rs → (n : ℕ) → record_at rs n ≡ None → (x.number ≡ n → ⊥) × Fewer xs rs
  head-number x xs [] h n none = elim h [ ]
  head-number x xs (r ∷ rs) (inl k) n none = let other = (cond_none (eqb r.number n) r (record_at rs n) none).0 in ((λ e. eqb-false r.number n other (sym k.0 ∙ e)), fewer-more r xs rs k.2)
  head-number x xs (r ∷ rs) (inr k) n none = let l = head-number x xs rs k n (cond_none (eqb r.number n) r (record_at rs n) none).1 in (l.0, fewer-more r xs rs l.1)

  pub changed-none : (n : ℕ) (change : Record K V → Record K V) (xs rs : List (Record K V)) → Fewer xs rs → record_at rs n ≡ None → changed_at n change xs ≡ xs
  changed-none n change [] rs h none = refl
  changed-none n change (x ∷ xs) rs h none =
      let k = head-number x xs rs h n none in
      ap (λ b. cond b (change x ∷ xs) (x ∷ changed_at n change xs)) (ne_eqb x.number n k.0) ∙ ap (λ l. x ∷ l) (changed-none n change xs rs k.1 none)

  pub without-none_of : (n : ℕ) (xs rs : List (Record K V)) → Fewer xs rs → record_at rs n ≡ None → without_record n xs ≡ xs
  without-none_of n [] rs h none = refl
  without-none_of n (x ∷ xs) rs h none =
      let k = head-number x xs rs h n none in
      ap (λ b. cond b xs (x ∷ without_record n xs)) (ne_eqb x.number n k.0) ∙ ap (λ l. x ∷ l) (without-none_of n xs rs k.1 none)

  -- ---- records that go or change

  pub fewer-without : (n : ℕ) (xs rs : List (Record K V)) → Fewer xs rs → Fewer (without_record n xs) rs
  fewer-without n [] rs h = tt
  fewer-without n (x ∷ xs) [] h = elim h [ ]
  fewer-without n (x ∷ xs) (r ∷ rs) (inr h) = fewer-more r (without_record n (x ∷ xs)) rs (fewer-without n (x ∷ xs) rs h)
  fewer-without n (x ∷ xs) (r ∷ rs) (inl h) = cond_both (eqb x.number n) _ _ (λ z. Fewer z (r ∷ rs)) (λ _. fewer-more r xs rs h.2) (λ _. inl (h.0, h.1, (fewer-without n xs rs h.2)))

  -- a change of bookkeeping that leaves number and weight
  pub fewer-changed : (n : ℕ) (change : Record K V → Record K V) → ((r : Record K V) → (change r).number ≡ r.number) → ((r : Record K V) → (change r).counts ≡ r.counts) → (rs : List (Record K V)) → Fewer (changed_at n change rs) rs
  fewer-changed n change same weight [] = tt
  fewer-changed n change same weight (r ∷ rs) =
      cond_both (eqb r.number n) _ _ (λ z. Fewer z (r ∷ rs)) (λ _. inl (same r, omega (arith, keeps), fewer-refl rs)) (λ _. inl (refl, omega arith, (fewer-changed n change same weight rs)))
    where
      keeps : weight_at (change r) ≡ weight_at r
      keeps = ap (λ o. unwrap_or o 0) (weight r)

  -- the same write on both
  pub fewer-put : (u : Upsert) (xs rs : List (Record K V)) → AreNumbered rs → Fewer xs rs → Fewer (with_write (Put u) xs) (with_write (Put u) rs)
  fewer-put u [] rs numbered h = tt
  fewer-put u (x ∷ xs) [] numbered h = elim h [ ]
  fewer-put u (x ∷ xs) (r ∷ rs) numbered h = go h (λ k. fewer-put u xs rs numbered.1 k) (λ k. fewer-put u (x ∷ xs) rs numbered.1 k)
    where
      change : Record K V → Record K V
      change y = record y { applied = u.write; counts = Some u.weight }

      both : (b c : Bool) → eqb x.number u.number ≡ b → eqb r.number u.number ≡ c → (x.number ≡ r.number) × (weight_at x ≤ weight_at r) × Fewer xs rs
          → Fewer (changed_at u.number change xs) (changed_at u.number change rs)
          → Fewer (cond b (change x ∷ xs) (x ∷ changed_at u.number change xs)) (cond c (change r ∷ rs) (r ∷ changed_at u.number change rs))
      both true true s t k later = inl (k.0, omega arith, k.2)
      both false false s t k later = inl (k.0, k.1, later)
      both true false s t k later = absurd (eqb-false r.number u.number t (sym k.0 ∙ eqb-true x.number u.number s))
      both false true s t k later = absurd (eqb-false x.number u.number s (k.0 ∙ eqb-true r.number u.number t))

      past : Fewer (x ∷ xs) rs → Fewer (with_write (Put u) (x ∷ xs)) (with_write (Put u) rs) → Fewer (with_write (Put u) (x ∷ xs)) (with_write (Put u) (r ∷ rs))
      past k later =
          cond_both (eqb r.number u.number) _ _ (λ l. Fewer (with_write (Put u) (x ∷ xs)) l)
          (λ t.
          let none : record_at rs u.number ≡ None = ap (λ n. record_at rs n) (sym (eqb-true r.number u.number t)) ∙ numbered.0 in
          fewer-more (change r) (with_write (Put u) (x ∷ xs)) rs (subst (λ l. Fewer l rs) (sym (changed-none u.number change (x ∷ xs) rs k none)) k))
          (λ _. fewer-more r (with_write (Put u) (x ∷ xs)) (changed_at u.number change rs) later)

      go : ((x.number ≡ r.number) × (weight_at x ≤ weight_at r) × Fewer xs rs) ⊎ Fewer (x ∷ xs) rs
          → (Fewer xs rs → Fewer (with_write (Put u) xs) (with_write (Put u) rs)) → (Fewer (x ∷ xs) rs → Fewer (with_write (Put u) (x ∷ xs)) (with_write (Put u) rs))
          → Fewer (with_write (Put u) (x ∷ xs)) (with_write (Put u) (r ∷ rs))
      go (inl k) one two = both (eqb x.number u.number) (eqb r.number u.number) refl refl k (one k.2)
      go (inr k) one two = past k (two k)

  pub fewer-removed : (n : ℕ) (xs rs : List (Record K V)) → AreNumbered rs → Fewer xs rs → Fewer (without_record n xs) (without_record n rs)
  fewer-removed n [] rs numbered h = tt
  fewer-removed n (x ∷ xs) [] numbered h = elim h [ ]
  fewer-removed n (x ∷ xs) (r ∷ rs) numbered h = go h (λ k. fewer-removed n xs rs numbered.1 k) (λ k. fewer-removed n (x ∷ xs) rs numbered.1 k)
    where
      both : (b c : Bool) → eqb x.number n ≡ b → eqb r.number n ≡ c → (x.number ≡ r.number) × (weight_at x ≤ weight_at r) × Fewer xs rs → Fewer (without_record n xs) (without_record n rs)
          → Fewer (cond b xs (x ∷ without_record n xs)) (cond c rs (r ∷ without_record n rs))
      both true true s t k later = k.2
      both false false s t k later = inl (k.0, k.1, later)
      both true false s t k later = absurd (eqb-false r.number n t (sym k.0 ∙ eqb-true x.number n s))
      both false true s t k later = absurd (eqb-false x.number n s (k.0 ∙ eqb-true r.number n t))

      past : Fewer (x ∷ xs) rs → Fewer (without_record n (x ∷ xs)) (without_record n rs) → Fewer (without_record n (x ∷ xs)) (without_record n (r ∷ rs))
      past k later =
          cond_both (eqb r.number n) _ _ (λ l. Fewer (without_record n (x ∷ xs)) l)
          (λ t.
          let none : record_at rs n ≡ None = ap (λ m. record_at rs m) (sym (eqb-true r.number n t)) ∙ numbered.0 in
          subst (λ l. Fewer l rs) (sym (without-none_of n (x ∷ xs) rs k none)) k)
          (λ _. fewer-more r (without_record n (x ∷ xs)) (without_record n rs) later)

      go : ((x.number ≡ r.number) × (weight_at x ≤ weight_at r) × Fewer xs rs) ⊎ Fewer (x ∷ xs) rs
          → (Fewer xs rs → Fewer (without_record n xs) (without_record n rs)) → (Fewer (x ∷ xs) rs → Fewer (without_record n (x ∷ xs)) (without_record n rs))
          → Fewer (without_record n (x ∷ xs)) (without_record n (r ∷ rs))
      go (inl k) one two = both (eqb x.number n) (eqb r.number n) refl refl k (one k.2)
      go (inr k) one two = past k (two k)

  pub fewer-write : (w : Write) (xs rs : List (Record K V)) → AreNumbered rs → Fewer xs rs → Fewer (with_write w xs) (with_write w rs)
  fewer-write (Put u) xs rs numbered h = fewer-put u xs rs numbered h
  fewer-write (Removed n) xs rs numbered h = fewer-removed n xs rs numbered h

  pub numbered-write : (w : Write) (rs : List (Record K V)) → AreNumbered rs → AreNumbered (with_write w rs)
  numbered-write (Put u) rs h = numbered-changed u.number (λ r. record r { applied = u.write; counts = Some u.weight }) (λ r. refl) rs h
  numbered-write (Removed n) rs h = numbered-without n rs h

  -- a refused newcomer goes, or stays as it is
  pub fewer-refused : (u : Upsert) (rs : List (Record K V)) → Fewer (without_record u.number rs) (with_write (Put u) rs)
  fewer-refused u [] = tt
  fewer-refused u (r ∷ rs) = elim (cases_Bool (eqb r.number u.number)) [ inl e ↦ rw e (fewer-more (change r) rs rs (fewer-refl rs)) | inr e ↦ rw e (inl (refl, omega arith, (fewer-refused u rs))) ]
    where
      change : Record K V → Record K V
      change y = record y { applied = u.write; counts = Some u.weight }

  pub fewer-put_off : (u : Upsert) (rs : List (Record K V)) (x : Record K V) → record_at rs u.number ≡ Some x → x.counts ≡ None → Fewer (changed_at u.number (λ r. record r { applied = u.write }) rs) (with_write (Put u) rs)
  fewer-put_off u [] x there none = tt
  fewer-put_off u (r ∷ rs) x there none =
      elim (cases_Bool (eqb r.number u.number)) [
        | inl e ↦ rw e (let same : r ≡ x = cc in let zero_weight : weight_at r ≡ 0 = ap (λ o. unwrap_or o 0) (ap (λ y. y.counts) same ∙ none) in inl (refl, omega (arith, zero_weight), fewer-refl rs))
        | inr e ↦ rw e (inl (refl, omega arith, (fewer-put_off u rs x) (rw e at there) none))
      ]
    where
      change : Record K V → Record K V
      change y = record y { applied = u.write; counts = Some u.weight }

      less : Record K V → Record K V
      less y = record y { applied = u.write }

  -- ---- what is kept

  pub kept-fewer : (ws : List Write) (xs rs : List (Record K V)) → AreNumbered rs → Fewer xs rs → AreKept ws rs → AreKept ws xs
  kept-fewer [] xs rs numbered h k = tt
  kept-fewer (w ∷ ws) xs rs numbered h k =
      let next = fewer-write w xs rs numbered h in (
        kept-less w (admitted_weight (with_write w xs)) (admitted_weight (with_write w rs)) (fewer-weight (with_write w xs) (with_write w rs) next) k.0,
        kept-fewer ws (with_write w xs) (with_write w rs) (numbered-write w rs numbered) next k.1,
      )

  -- a newcomer's weight comes on top
  pub weight-put : (u : Upsert) (rs : List (Record K V)) (x : Record K V) → record_at rs u.number ≡ Some x → x.counts ≡ None → admitted_weight (with_write (Put u) rs) ≡ admitted_weight rs + u.weight
  weight-put u [] x there none = absurd (cc)
  weight-put u (r ∷ rs) x there none =
      elim (cases_Bool (eqb r.number u.number)) [
        | inl e ↦ rw e (let same : r ≡ x = cc in let zero_weight : weight_at r ≡ 0 = ap (λ o. unwrap_or o 0) (ap (λ y. y.counts) same ∙ none) in omega (arith, zero_weight, weight-cons (change r) rs, weight-cons r rs))
        | inr e ↦ rw e (let more = (weight-put u rs x) (rw e at there) none in omega (arith, weight-cons r (changed_at u.number change rs), weight-cons r rs))
      ]
    where
      change : Record K V → Record K V
      change y = record y { applied = u.write; counts = Some u.weight }
