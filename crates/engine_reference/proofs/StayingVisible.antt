-- What look-ups see after a stretch of maintenance.
use Rattle.std.proofs.Common.{arith, ◌≡◌, refl, ap, sym, ◌∙◌, ℕ, zero, suc, Bool, true, false, true≢false, cond, not, ◌&&◌, List, [], ◌∷◌, Option, Some, None, inl, inr, ◌⊎◌}
use Rattle.std.specs.Prelude.{slice_get, remove}
use Rattle.std.specs.Cmp.{IsEquivalence}
use Rattle.std.specs.Option.{option_map}
use Rattle.engine_reference.specs.declared.data.Entry.{Entry}
use Rattle.engine_reference.specs.declared.data.Record.{Record}
use Rattle.engine_reference.specs.Laws.{RunsKeepVisible}
use Rattle.engine_reference.specs.Records.{held_at, held_entries}
use Rattle.engine_reference.specs.State.{State, Answers}
use Rattle.engine_reference.specs.Telling.{Removal, KeepsCover, TakesAway, AreApart, IsAmong, StaysVisible, entry_of, removed_entries}
use Rattle.engine_reference.specs.Times.{has_come}
use Rattle.engine_reference.specs.Visible.{visible, is_visible, is_covered, passing}
use Rattle.engine_reference.proofs.Accounts.{cond_none}
use Rattle.engine_reference.proofs.TellingSteps.{run_tells}
use Rattle.std.proofs.lemmas.Bool.Decides.{nat_tests}
use Rattle.std.proofs.lemmas.Bool.{cases_Bool, false_from_ne_true}

module _ {K V : Type 0} (eq : K → K → Bool) where
  entry_of-remove : (es : List (Entry K V)) (i : ℕ) (k : K) → entry_of eq es k ≡ None → entry_of eq (remove es i) k ≡ None
  entry_of-remove [] zero k h = refl
  entry_of-remove [] (suc i) k h = refl
  entry_of-remove (e ∷ es) zero k h = (cond_none (eq k e.key) e (entry_of eq es k) h).1
  entry_of-remove (e ∷ es) (suc i) k h =
      let p = cond_none (eq k e.key) e (entry_of eq es k) h in
      ap (λ b. cond b (Some e) (entry_of eq (remove es i) k)) p.0 ∙ entry_of-remove es i k p.1

  pub AreApart-remove : (es : List (Entry K V)) (i : ℕ) → AreApart eq es → AreApart eq (remove es i)
  AreApart-remove [] zero h = tt
  AreApart-remove [] (suc i) h = tt
  AreApart-remove (e ∷ es) zero h = h.1
  AreApart-remove (e ∷ es) (suc i) h = (entry_of-remove es i e.key h.0, AreApart-remove es i h.1)

  -- where the entry of a key stands
  pub entry_of-there : (es : List (Entry K V)) (k : K) (e : Entry K V) → entry_of eq es k ≡ Some e → (i : ℕ) × (slice_get es i ≡ Some e)
  entry_of-there [] k e h = absurd (cc)
  entry_of-there (x ∷ es) k e h = elim (cases_Bool (eq k x.key)) [ inl is ↦ (0, (rw is at h)) | inr is ↦ let r = (entry_of-there es k e) (rw is at h) in (suc r.0, r.1) ]

  -- the entry of a key stays, or is among those that were taken
  abbrev pub StaysOrGoes : List (Removal K V) → List (Entry K V) → List (Entry K V) → K → Type 0
  StaysOrGoes removals old new q =
      (entry_of eq new q ≡ entry_of eq old q) ⊎ ((entry_of eq new q ≡ None) × ((gone : Removal K V) × IsAmong gone removals × (entry_of eq old q ≡ Some gone.entry)))

module _ {K V : Type 0} (eq : K → K → Bool) (laws : IsEquivalence eq) where
  not_among : (es : List (Entry K V)) (i : ℕ) (e : Entry K V) (k : K) → slice_get es i ≡ Some e → entry_of eq es k ≡ None → eq k e.key ≡ false
  not_among [] i e k there none = absurd (cc)
  not_among (x ∷ es) zero e k there none = let same : x ≡ e = cc in ap (λ y. eq k y.key) (sym same) ∙ (cond_none (eq k x.key) x (entry_of eq es k) none).0
  not_among (x ∷ es) (suc i) e k there none = not_among es i e k there (cond_none (eq k x.key) x (entry_of eq es k) none).1

  -- another key's entry stays
  remove_other : (es : List (Entry K V)) (i : ℕ) (e : Entry K V) (q : K) → slice_get es i ≡ Some e → eq q e.key ≡ false → entry_of eq (remove es i) q ≡ entry_of eq es q
  remove_other [] i e q there apart = absurd (cc)
  remove_other (x ∷ es) zero e q there apart = let same : x ≡ e = cc in sym (ap (λ b. cond b (Some x) (entry_of eq es q)) (ap (λ y. eq q y.key) same ∙ apart))
  remove_other (x ∷ es) (suc i) e q there apart = ap (λ o. cond (eq q x.key) (Some x) o) (remove_other es i e q there apart)

  alike_none : (es : List (Entry K V)) (a b : K) → eq a b ≡ true → entry_of eq es b ≡ None → entry_of eq es a ≡ None
  alike_none [] a b same none = refl
  alike_none (x ∷ es) a b same none =
      let p = cond_none (eq b x.key) x (entry_of eq es b) none in
      ap (λ t. cond t (Some x) (entry_of eq es a)) (laws.congr a b x.key same ∙ p.0) ∙ alike_none es a b same p.1

  apart_heads : (x e : Entry K V) (q : K) → eq x.key e.key ≡ false → eq q e.key ≡ true → eq q x.key ≡ false
  apart_heads x e q no_match h = false_from_ne_true _ (λ t. true≢false (sym h ∙ laws.congr q x.key e.key t ∙ no_match))

  -- the key's own entry is gone
  remove_same : (es : List (Entry K V)) (i : ℕ) (e : Entry K V) (q : K) → AreApart eq es → slice_get es i ≡ Some e → eq q e.key ≡ true → (entry_of eq es q ≡ Some e) × (entry_of eq (remove es i) q ≡ None)
  remove_same [] i e q h there same = absurd (cc)
  remove_same (x ∷ es) zero e q h there same =
      let here : x ≡ e = cc in
      let t = ap (λ y. eq q y.key) here ∙ same in
      (ap (λ b. cond b (Some x) (entry_of eq es q)) t ∙ ap Some here, alike_none es q x.key t h.0)
  remove_same (x ∷ es) (suc i) e q h there same =
      let r = remove_same es i e q h.1 there same in
      let f = apart_heads x e q (not_among es i e x.key there h.0) same in
      (ap (λ b. cond b (Some x) (entry_of eq es q)) f ∙ r.0, ap (λ b. cond b (Some x) (entry_of eq (remove es i) q)) f ∙ r.1)

  pub taken_apart : (xs : List (Removal K V)) (old new : List (Entry K V)) → AreApart eq old → TakesAway (removed_entries xs) old new → AreApart eq new
  taken_apart [] old new apart h = rw h apart
  taken_apart (x ∷ xs) old new apart h = taken_apart xs (remove old h.0) new (AreApart-remove eq old h.0 apart) h.2

  pub taken_looks : (xs : List (Removal K V)) (old new : List (Entry K V)) → AreApart eq old → TakesAway (removed_entries xs) old new → (q : K) → StaysOrGoes eq xs old new q
  taken_looks [] old new apart h q = inl (ap (λ es. entry_of eq es q) h)
  taken_looks (x ∷ xs) old new apart h q =
      elim (cases_Bool (eq q x.entry.key)) [
        | inl e ↦ now e (taken_looks xs (remove old h.0) new (AreApart-remove eq old h.0 apart) h.2 q)
        | inr e ↦ later e (taken_looks xs (remove old h.0) new (AreApart-remove eq old h.0 apart) h.2 q)
      ]
    where
      later : (eq q x.entry.key ≡ false) → StaysOrGoes eq xs (remove old h.0) new q → StaysOrGoes eq (x ∷ xs) old new q
      later other (inl same) = inl (same ∙ remove_other old h.0 x.entry q h.1 other)
      later other (inr gone) = inr (gone.0, (gone.1.0, inr gone.1.1, sym (remove_other old h.0 x.entry q h.1 other) ∙ gone.1.2))

      now : (eq q x.entry.key ≡ true) → StaysOrGoes eq xs (remove old h.0) new q → StaysOrGoes eq (x ∷ xs) old new q
      now same (inl stays) = let r = remove_same old h.0 x.entry q apart h.1 same in inr (stays ∙ r.1, (x, inl refl, r.0))
      now same (inr gone) = let r = remove_same old h.0 x.entry q apart h.1 same in inr (gone.0, (x, inl refl, r.0))

-- ---- what is visible goes by the held entries

module _ {K V : Type 0} (eq : K → K → Bool) where
  held_at-entry : (test : Entry K V → Bool) (rs : List (Record K V)) (q : K) → option_map (λ r. r.entry) (passing (λ r. test r.entry) (held_at eq rs q)) ≡ passing test (entry_of eq (held_entries rs) q)
  held_at-entry test [] q = refl
  held_at-entry test (r ∷ rs) q = let next = held_at-entry test rs q in grind (arith, nat_tests, next)

module _ {K V : Type 0} where
  passing-same : (f g : Entry K V → Bool) (o : Option (Entry K V)) → ((e : Entry K V) → o ≡ Some e → f e ≡ g e) → passing f o ≡ passing g o
  passing-same f g None h = refl
  passing-same f g (Some e) h = ap (λ b. cond b (Some e) None) (h e refl)

module _ {K V P S R : Type 0} (eq : K → K → Bool) (answers : Answers K V P R) where
  pub visible_by_entries : (s : State K V P S R) (moment : ℕ) (q : K) → visible answers eq s moment q ≡ passing (is_visible answers s moment) (entry_of eq (held_entries s.records) q)
  visible_by_entries s moment q = held_at-entry eq (is_visible answers s moment) s.records q

  same_test : (old new : State K V P S R) (moment place : ℕ) (e : Entry K V) → KeepsCover answers old new → slice_get (held_entries new.records) place ≡ Some e → is_visible answers new moment e ≡ is_visible answers old moment e
  same_test old new moment place e keeps there =
      ap (λ settings. not (has_come settings moment e) && not (is_covered answers new e)) keeps.settings
      ∙ ap (λ b. not (has_come old.settings moment e) && not b) (keeps.covered place e there)

  pub stays_visible : (xs : List (Removal K V)) (old new : State K V P S R) → KeepsCover answers old new → (moment : ℕ) (q : K)
      → StaysOrGoes eq xs (held_entries old.records) (held_entries new.records) q → StaysVisible eq answers xs old new moment q
  stays_visible xs old new keeps moment q (inl same) = inl (
      visible_by_entries new moment q
      ∙ passing-same (is_visible answers new moment) (is_visible answers old moment) (entry_of eq (held_entries new.records) q)
      (λ e found. let p = entry_of-there eq (held_entries new.records) q e found in same_test old new moment p.0 e keeps p.1)
      ∙ ap (λ o. passing (is_visible answers old moment) o) same
      ∙ sym (visible_by_entries old moment q))
  stays_visible xs old new keeps moment q (inr taken) =
      elim (cases_Bool (is_visible answers old moment taken.1.0.entry)) [
        | inl is ↦ inr (nothing, (gone, taken.1.1, before ∙ ap (λ b. cond b (Some gone.entry) None) is))
        | inr is ↦ inl (nothing ∙ sym (before ∙ ap (λ b. cond b (Some gone.entry) None) is))
      ]
    where
      gone : Removal K V
      gone = taken.1.0

      nothing : visible answers eq new moment q ≡ None
      nothing = visible_by_entries new moment q ∙ ap (λ o. passing (is_visible answers new moment) o) taken.0

      before : visible answers eq old moment q ≡ cond (is_visible answers old moment gone.entry) (Some gone.entry) None
      before = visible_by_entries old moment q ∙ ap (λ o. passing (is_visible answers old moment) o) taken.1.2

module _ (K V P S R : Type 0) where
  pub runs_keep_visible : RunsKeepVisible K V P S R
  runs_keep_visible eq laws answers now old new apart h =
      let c = run_tells answers now old new h in
      record {
        removals = c.removals;
        tells = c.tells;
        apart = taken_apart eq laws c.removals (held_entries old.records) (held_entries new.records) apart c.tells.entries;
        stays = λ moment key. stays_visible eq answers c.removals old new c.keeps moment key (taken_looks eq laws c.removals (held_entries old.records) (held_entries new.records) apart c.tells.entries key);
      }
