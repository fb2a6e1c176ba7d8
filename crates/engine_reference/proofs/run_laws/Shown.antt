-- What calls show.
use Rattle.std.proofs.Common.{arith, ◌≡◌, refl, ap, sym, ◌∙◌, ℕ, ◌+◌, Bool, true, false, true≢false, cond, ◌&&◌, List, [], ◌∷◌, ◌++◌, Option, Some, None, inl, inr, ◌⊎◌, eqb}
use Rattle.std.specs.Cmp.{IsEquivalence}
use Rattle.std.specs.Option.{option_map}
use Rattle.std.proofs.lemmas.Bool.{cond_both, cases_Bool, eqb-true, and_parts}
use Rattle.engine_reference.specs.declared.data.Entry.{Entry}
use Rattle.engine_reference.specs.declared.data.Record.{Record}
use Rattle.engine_reference.specs.Calls.{with_written, first_entry, next_entry, with_removed, removal_told, with_read, used_entry}
use Rattle.engine_reference.specs.Records.{record_at, held_at, changed_at, held_entries}
use Rattle.engine_reference.specs.Soundness.{Each, IsSound}
use Rattle.engine_reference.specs.State.{State, Answers}
use Rattle.engine_reference.specs.Telling.{AreApart, entry_of}
use Rattle.engine_reference.specs.Visible.{visible, visible_record, visible_value, is_visible, passing}
use Rattle.engine_reference.proofs.Accounts.{cond_none, each-map, only_one}
use Rattle.engine_reference.proofs.SoundCalls.{held_at-only}
use Rattle.engine_reference.specs.RunLaws.Showing.{OnlyWritesShow, CallsKeepApart}
use Rattle.std.proofs.lemmas.Bool.Decides.{nat_tests}

none_from : {X Y : Type 0} (f : X → Y) (o : Option X) → option_map f o ≡ None → o ≡ None
none_from f None h = refl
none_from f (Some x) h = absurd (cc)

module _ {K V : Type 0} (eq : K → K → Bool) where
  -- no other record that is held has a key alike
  abbrev pub RecordsApart : List (Record K V) → Type 0
  RecordsApart [] = Unit {0}
  RecordsApart (x ∷ rs) = (x.is_held ≡ true → held_at eq rs x.entry.key ≡ None) × RecordsApart rs

  pub entry-held : (rs : List (Record K V)) (key : K) → entry_of eq (held_entries rs) key ≡ option_map (λ r. r.entry) (held_at eq rs key)
  entry-held [] key = refl
  entry-held (x ∷ rs) key = let next = entry-held rs key in grind (arith, nat_tests, next)

  pub to-records : (rs : List (Record K V)) → AreApart eq (held_entries rs) → RecordsApart rs
  to-records [] h = tt
  to-records (x ∷ rs) h = elim (cases_Bool x.is_held) [
    | inl t ↦ let k = rw t at h in ((λ held. none_from (λ r. r.entry) (held_at eq rs x.entry.key) (sym (entry-held rs x.entry.key) ∙ k.0)), to-records rs k.1)
    | inr t ↦ ((λ held. absurd (true≢false (sym held ∙ t))), to-records rs (rw t at h))
  ]

  pub from-records : (rs : List (Record K V)) → RecordsApart rs → AreApart eq (held_entries rs)
  from-records [] h = tt
  from-records (x ∷ rs) h = cond_both x.is_held _ _ (AreApart eq) (λ e. (entry-held rs x.entry.key ∙ ap (λ o. option_map (λ r. r.entry) o) (h.0 e), (from-records rs h.1))) (λ _. from-records rs h.1)

  -- ---- a record changes, with a key that compares as before, and is not held anew

  abbrev pub IsMild : ℕ → (Record K V → Record K V) → Record K V → Type 0
  IsMild n change x = x.number ≡ n → ((change x).is_held ≡ true → x.is_held ≡ true) × ((key : K) → eq key (change x).entry.key ≡ eq key x.entry.key)

  still_none : (n : ℕ) (change : Record K V → Record K V) (rs : List (Record K V)) → Each (IsMild n change) rs → (key : K) → held_at eq rs key ≡ None → held_at eq (changed_at n change rs) key ≡ None
  still_none n change [] mild key h = refl
  still_none n change (x ∷ rs) mild key h =
      let p = cond_none (x.is_held && eq key x.entry.key) x (held_at eq rs key) h in
      cond_both (eqb x.number n) _ _ (λ z. held_at eq z key ≡ None) (λ e. ap (λ c. cond c (Some (change x)) (held_at eq rs key)) (unmatched (mild.0 (eqb-true x.number n e)) p.0) ∙ p.1) (λ _. ap (λ c. cond c (Some x) (held_at eq (changed_at n change rs) key)) p.0 ∙ (still_none n change rs mild.1 key p.1))
    where
      unmatched : ((change x).is_held ≡ true → x.is_held ≡ true) × ((key : K) → eq key (change x).entry.key ≡ eq key x.entry.key) → (x.is_held && eq key x.entry.key) ≡ false → ((change x).is_held && eq key (change x).entry.key) ≡ false
      unmatched m unlike = let kept = m.0 in let same = m.1 key in grind (arith, nat_tests, kept, same, unlike)

  module _ (alike : (a b : K) → ((key : K) → eq key a ≡ eq key b) → (rs : List (Record K V)) → held_at eq rs a ≡ None → held_at eq rs b ≡ None) where
    apart-changed : (n : ℕ) (change : Record K V → Record K V) (rs : List (Record K V)) → Each (IsMild n change) rs → RecordsApart rs → RecordsApart (changed_at n change rs)
    apart-changed n change [] mild h = tt
    apart-changed n change (x ∷ rs) mild h =
        cond_both (eqb x.number n) _ _ RecordsApart (λ e. let m = mild.0 (eqb-true x.number n e) in ((λ held. alike x.entry.key (change x).entry.key (λ key. sym (m.1 key)) rs (h.0 (m.0 held))), h.1)) (λ _. ((λ held. still_none n change rs mild.1 x.entry.key (h.0 held)), (apart-changed n change rs mild.1 h.1)))

  -- ---- what is found

  -- a record that does not answer to the key changes
  pub unmatched-changed : (n : ℕ) (change : Record K V → Record K V) (key : K) (rs : List (Record K V)) → Each (λ x. x.number ≡ n → (eq key x.entry.key ≡ false) × (eq key (change x).entry.key ≡ false)) rs
      → held_at eq (changed_at n change rs) key ≡ held_at eq rs key
  unmatched-changed n change key [] h = refl
  unmatched-changed n change key (x ∷ rs) h = let next = unmatched-changed n change key rs h.1 in grind (arith, nat_tests, next)

  pub held-push : (rs : List (Record K V)) (x : Record K V) (key : K) → eq key x.entry.key ≡ false → held_at eq (rs ++ x ∷ []) key ≡ held_at eq rs key
  held-push [] x key unlike = grind (arith, nat_tests, unlike)
  held-push (r ∷ rs) x key unlike = ap (λ o. cond (r.is_held && eq key r.entry.key) (Some r) o) (held-push rs x key unlike)

  -- a change that keeps key and holding is found where the record was
  pub found-changed : (n : ℕ) (change : Record K V → Record K V) → ((x : Record K V) → (change x).is_held ≡ x.is_held) → ((x : Record K V) → (change x).entry.key ≡ x.entry.key) → (rs : List (Record K V)) (key : K)
      → (held_at eq (changed_at n change rs) key ≡ held_at eq rs key) ⊎ ((x : Record K V) × (held_at eq rs key ≡ Some x) × (x.number ≡ n) × (held_at eq (changed_at n change rs) key ≡ Some (change x)))
  found-changed n change held same [] key = inl refl
  found-changed n change held same (x ∷ rs) key = go (eqb x.number n) (x.is_held && eq key x.entry.key) refl refl (found-changed n change held same rs key)
    where
      match_is : ((change x).is_held && eq key (change x).entry.key) ≡ (x.is_held && eq key x.entry.key)
      match_is = ap (λ c. c && eq key (change x).entry.key) (held x) ∙ ap (λ k. x.is_held && eq key k) (same x)

      go : (b c : Bool) → eqb x.number n ≡ b → (x.is_held && eq key x.entry.key) ≡ c
          → (held_at eq (changed_at n change rs) key ≡ held_at eq rs key) ⊎ ((y : Record K V) × (held_at eq rs key ≡ Some y) × (y.number ≡ n) × (held_at eq (changed_at n change rs) key ≡ Some (change y)))
          → (held_at eq (cond b (change x ∷ rs) (x ∷ changed_at n change rs)) key ≡ cond c (Some x) (held_at eq rs key))
          ⊎ ((y : Record K V) × (cond c (Some x) (held_at eq rs key) ≡ Some y) × (y.number ≡ n) × (held_at eq (cond b (change x ∷ rs) (x ∷ changed_at n change rs)) key ≡ Some (change y)))
      go true true s t later = inr (x, refl, eqb-true x.number n s, ap (λ c. cond c (Some (change x)) (held_at eq rs key)) (match_is ∙ t))
      go true false s t later = inl (ap (λ c. cond c (Some (change x)) (held_at eq rs key)) (match_is ∙ t))
      go false true s t later = inl (ap (λ c. cond c (Some x) (held_at eq (changed_at n change rs) key)) t)
      go false false s t later =
          let skip = ap (λ c. cond c (Some x) (held_at eq (changed_at n change rs) key)) t in
          elim later [ inl e ↦ inl (skip ∙ e) | inr k ↦ inr (k.0, k.1, k.2, skip ∙ k.3) ]

module _ {K V : Type 0} (eq : K → K → Bool) where
  pub held_at-match : (rs : List (Record K V)) (key : K) (r : Record K V) → held_at eq rs key ≡ Some r → eq key r.entry.key ≡ true
  held_at-match [] key r h = absurd (cc)
  held_at-match (x ∷ rs) key r h = let next = held_at-match rs key r in grind (arith, nat_tests, h, next)

module _ {K V : Type 0} (eq : K → K → Bool) (laws : IsEquivalence eq) where
  alike_none : (rs : List (Record K V)) (a b : K) → eq a b ≡ true → held_at eq rs b ≡ None → held_at eq rs a ≡ None
  alike_none [] a b same h = refl
  alike_none (x ∷ rs) a b same h =
      let p = cond_none (x.is_held && eq b x.entry.key) x (held_at eq rs b) h in
      ap (λ c. cond c (Some x) (held_at eq rs a)) (ap (λ c. x.is_held && c) (laws.congr a b x.entry.key same) ∙ p.0) ∙ alike_none rs a b same p.1

  -- a record is no longer held: its key shows nothing, others what they showed
  pub gone-changed : (n : ℕ) (change : Record K V → Record K V) → ((x : Record K V) → (change x).is_held ≡ false) → (rs : List (Record K V)) → RecordsApart eq rs → (key : K)
      → (held_at eq (changed_at n change rs) key ≡ held_at eq rs key) ⊎ (held_at eq (changed_at n change rs) key ≡ None)
  gone-changed n change out [] apart key = inl refl
  gone-changed n change out (x ∷ rs) apart key = go (eqb x.number n) (x.is_held && eq key x.entry.key) refl (gone-changed n change out rs apart.1 key)
    where
      go : (b c : Bool) → (x.is_held && eq key x.entry.key) ≡ c → (held_at eq (changed_at n change rs) key ≡ held_at eq rs key) ⊎ (held_at eq (changed_at n change rs) key ≡ None)
          → (held_at eq (cond b (change x ∷ rs) (x ∷ changed_at n change rs)) key ≡ cond c (Some x) (held_at eq rs key)) ⊎ (held_at eq (cond b (change x ∷ rs) (x ∷ changed_at n change rs)) key ≡ None)
      go true true t later =
          let parts = and_parts x.is_held (eq key x.entry.key) t in
          inr (ap (λ c. cond (c && eq key (change x).entry.key) (Some (change x)) (held_at eq rs key)) (out x) ∙ alike_none rs key x.entry.key parts.1 (apart.0 parts.0))
      go true false t later = inl (ap (λ c. cond (c && eq key (change x).entry.key) (Some (change x)) (held_at eq rs key)) (out x))
      go false true t later = inl (ap (λ c. cond c (Some x) (held_at eq (changed_at n change rs) key)) t)
      go false false t later =
          let skip = ap (λ c. cond c (Some x) (held_at eq (changed_at n change rs) key)) t in
          elim later [ inl e ↦ inl (skip ∙ e) | inr e ↦ inr (skip ∙ e) ]

  apart-push : (rs : List (Record K V)) (x : Record K V) → RecordsApart eq rs → held_at eq rs x.entry.key ≡ None → RecordsApart eq (rs ++ x ∷ [])
  apart-push [] x h none = ((λ held. refl), tt)
  apart-push (r ∷ rs) x h none =
      let p = cond_none (r.is_held && eq x.entry.key r.entry.key) r (held_at eq rs x.entry.key) none in
      ((λ held. held-push eq rs x r.entry.key (laws.symm r.entry.key x.entry.key ∙ sym (ap (λ c. c && eq x.entry.key r.entry.key) held) ∙ p.0) ∙ h.0 held), apart-push rs x h.1 p.1)

  alike : (a b : K) → ((key : K) → eq key a ≡ eq key b) → (rs : List (Record K V)) → held_at eq rs a ≡ None → held_at eq rs b ≡ None
  alike a b same rs h = alike_none rs b a (laws.symm b a ∙ sym (same a ∙ refl) ∙ laws.refl a) h

-- ---- calls

through : {X Y : Type 0} (f : X → Y) (a b : Option X) → (a ≡ b) ⊎ (a ≡ None) → (option_map f a ≡ option_map f b) ⊎ (option_map f a ≡ None)
through f a b (inl e) = inl (ap (λ o. option_map f o) e)
through f a b (inr e) = inr (ap (λ o. option_map f o) e)

pass_none : {X : Type 0} (test : X → Bool) (a b : Option X) → (a ≡ b) ⊎ (a ≡ None) → (passing test a ≡ passing test b) ⊎ (passing test a ≡ None)
pass_none test a b (inl e) = inl (ap (λ o. passing test o) e)
pass_none test a b (inr e) = inr (ap (λ o. passing test o) e)

-- what passed
passed : {X : Type 0} (test : X → Bool) (o : Option X) (x : X) → passing test o ≡ Some x → (o ≡ Some x) × (test x ≡ true)
passed test None x h = absurd (cc)
passed test (Some y) x h = grind (arith, nat_tests, h)

module _ {K V P S R : Type 0} where
  removed-shows : (eq : K → K → Bool) → IsEquivalence eq → (answers : Answers K V P R) (s : State K V P S R) (moment : ℕ) (other : K) → RecordsApart eq s.records → (o : Option (Record K V))
      → (visible answers eq (with_removed o s) moment other ≡ visible answers eq s moment other) ⊎ (visible answers eq (with_removed o s) moment other ≡ None)
  removed-shows eq laws answers s moment other apart None = inl refl
  removed-shows eq laws answers s moment other apart (Some r) =
      let f = λ (x : Record K V). record x { is_held = false; writes = x.writes + 1 } in
      through (λ x. x.entry) _ _ (pass_none (λ x. is_visible answers s moment x.entry) (held_at eq (changed_at r.number f s.records) other) (held_at eq s.records other) (gone-changed eq laws r.number f (λ x. refl) s.records apart other))

  read-shows : (eq : K → K → Bool) (answers : Answers K V P R) (s : State K V P S R) (key : K) (hash now : ℕ) (other : K) → IsSound s → (o : Option (Record K V)) → visible_record answers eq s now key ≡ o
      → (visible_value answers eq (with_read answers o hash now s) now other ≡ visible_value answers eq s now other) ⊎ (visible_value answers eq (with_read answers o hash now s) now other ≡ None)
  read-shows eq answers s key hash now other sound None e = inl refl
  read-shows eq answers s key hash now other sound (Some r) e = elim (found-changed eq r.number f (λ x. refl) (λ x. refl) s.records other) [
    | inl same ↦ inl (ap (λ o. value_of o) same)
    | inr k ↦ by_visible k.0 k.1 k.2 k.3
  ]
    where
      f : Record K V → Record K V
      f x = record x { entry = used_entry answers s now x.entry }

      value_of : Option (Record K V) → Option V
      value_of o = option_map (λ x. x.value) (option_map (λ x. x.entry) (passing (λ x. is_visible answers s now x.entry) o))

      found : (held_at eq s.records key ≡ Some r) × (is_visible answers s now r.entry ≡ true)
      found = passed (λ x. is_visible answers s now x.entry) (held_at eq s.records key) r e

      by_visible : (x : Record K V) → held_at eq s.records other ≡ Some x → x.number ≡ r.number → held_at eq (changed_at r.number f s.records) other ≡ Some (f x)
          → (value_of (held_at eq (changed_at r.number f s.records) other) ≡ value_of (held_at eq s.records other)) ⊎ (value_of (held_at eq (changed_at r.number f s.records) other) ≡ None)
      by_visible x there number after =
          elim (cases_Bool (is_visible answers s now (f r).entry)) [
            | inl t ↦ inl (now_is ∙ ap (λ c. option_map (λ x. x.value) (option_map (λ x. x.entry) (cond c (Some (f r)) None))) t ∙ sym was)
            | inr t ↦ inr (now_is ∙ ap (λ c. option_map (λ x. x.value) (option_map (λ x. x.entry) (cond c (Some (f r)) None))) t)
          ]
        where
          is_r : x ≡ r
          is_r = let both : Some x ≡ Some r = sym (held_at-only eq s.records other x sound.records.numbered there) ∙ ap (λ n. record_at s.records n) number ∙ held_at-only eq s.records key r sound.records.numbered found.0 in cc

          now_is : value_of (held_at eq (changed_at r.number f s.records) other) ≡ value_of (Some (f r))
          now_is = ap (λ o. value_of o) (after ∙ ap (λ y. Some (f y)) is_r)

          was : value_of (held_at eq s.records other) ≡ Some r.entry.value
          was = ap (λ o. value_of o) (there ∙ ap Some is_r) ∙ ap (λ c. option_map (λ x. x.value) (option_map (λ x. x.entry) (cond c (Some r) None))) found.1

  written-shows : (eq : K → K → Bool) → IsEquivalence eq → (answers : Answers K V P R) (s : State K V P S R) (key : K) (hash : ℕ) (value : V) (now step moment : ℕ) (other : K) → IsSound s → eq other key ≡ false → (o : Option (Record K V)) → held_at eq s.records key ≡ o
      → visible answers eq (with_written answers o s key hash value now step) moment other ≡ visible answers eq s moment other
  written-shows eq laws answers s key hash value now step moment other sound unlike None e =
      let x : Record K V = record { number = s.next_number; hash = hash; entry = first_entry answers s key value now step; is_held = true; writes = 1; applied = 0; counts = None } in
      ap (λ o. option_map (λ x. x.entry) (passing (λ x. is_visible answers s moment x.entry) o)) (held-push eq s.records x other unlike)
  written-shows eq laws answers s key hash value now step moment other sound unlike (Some r) e =
      let f = λ (x : Record K V). record x { entry = next_entry answers s r.entry key value now step; writes = x.writes + 1 } in
      let only = only_one r.number r s.records sound.records.numbered (held_at-only eq s.records key r sound.records.numbered e) in
      let mine = held_at-match eq s.records key r e in
      ap (λ o. option_map (λ x. x.entry) (passing (λ x. is_visible answers s moment x.entry) o))
      (unmatched-changed eq r.number f other s.records
      (each-map (λ x. x.number ≡ r.number → x ≡ r) (λ x. x.number ≡ r.number → (eq other x.entry.key ≡ false) × (eq other (f x).entry.key ≡ false))
      (λ x k same. (ap (λ y. eq other y.entry.key) (k same) ∙ laws.symm other r.entry.key ∙ sym (laws.congr key r.entry.key other mine) ∙ laws.symm key other ∙ unlike, unlike)) s.records only))

  told-shows : (eq : K → K → Bool) (answers : Answers K V P R) (s : State K V P S R) (now moment : ℕ) (other : K) (e : Entry K V) → visible answers eq (removal_told answers e now s) moment other ≡ visible answers eq s moment other
  told-shows eq answers s now moment other e = refl

  -- ---- keys stay apart

  pub removed-apart : (eq : K → K → Bool) → IsEquivalence eq → (s : State K V P S R) (o : Option (Record K V)) → RecordsApart eq s.records → RecordsApart eq (with_removed o s).records
  removed-apart eq laws s None h = h
  removed-apart eq laws s (Some r) h =
      let f = λ (x : Record K V). record x { is_held = false; writes = x.writes + 1 } in
      apart-changed eq (alike eq laws) r.number f s.records (all_mild f s.records (λ x. ((λ held. absurd (true≢false (sym held))), (λ key. refl)))) h
    where
      all_mild : (f : Record K V → Record K V) (rs : List (Record K V)) → ((x : Record K V) → ((f x).is_held ≡ true → x.is_held ≡ true) × ((key : K) → eq key (f x).entry.key ≡ eq key x.entry.key)) → Each (IsMild eq r.number f) rs
      all_mild f [] m = tt
      all_mild f (x ∷ rs) m = ((λ same. m x), all_mild f rs m)

  pub read-apart : (eq : K → K → Bool) → IsEquivalence eq → (answers : Answers K V P R) (s : State K V P S R) (o : Option (Record K V)) (hash now : ℕ) → RecordsApart eq s.records → RecordsApart eq (with_read answers o hash now s).records
  read-apart eq laws answers s None hash now h = h
  read-apart eq laws answers s (Some r) hash now h =
      apart-changed eq (alike eq laws) r.number f s.records (all_mild s.records) h
    where
      f : Record K V → Record K V
      f x = record x { entry = used_entry answers s now x.entry }

      all_mild : (rs : List (Record K V)) → Each (IsMild eq r.number f) rs
      all_mild [] = tt
      all_mild (x ∷ rs) = ((λ same. ((λ held. held), (λ key. refl))), all_mild rs)

  pub written-apart : (eq : K → K → Bool) → IsEquivalence eq → (answers : Answers K V P R) (s : State K V P S R) (key : K) (hash : ℕ) (value : V) (now step : ℕ) (o : Option (Record K V)) → held_at eq s.records key ≡ o → IsSound s → RecordsApart eq s.records
      → RecordsApart eq (with_written answers o s key hash value now step).records
  written-apart eq laws answers s key hash value now step None e sound h =
      apart-push eq laws s.records (record { number = s.next_number; hash = hash; entry = first_entry answers s key value now step; is_held = true; writes = 1; applied = 0; counts = None }) h e
  written-apart eq laws answers s key hash value now step (Some r) e sound h =
      let f = λ (x : Record K V). record x { entry = next_entry answers s r.entry key value now step; writes = x.writes + 1 } in
      let only = only_one r.number r s.records sound.records.numbered (held_at-only eq s.records key r sound.records.numbered e) in
      let mine = held_at-match eq s.records key r e in
      apart-changed eq (alike eq laws) r.number f s.records
      (each-map (λ x. x.number ≡ r.number → x ≡ r) (IsMild eq r.number f)
      (λ x k same. ((λ held. held), (λ other. laws.symm other key ∙ laws.congr key r.entry.key other mine ∙ laws.symm r.entry.key other ∙ ap (λ y. eq other y.entry.key) (sym (k same))))) s.records only) h

module _ (K V P S R : Type 0) where
  pub only_writes_show : OnlyWritesShow K V P S R
  only_writes_show = record {
    written = λ eq laws answers s key hash value now step moment other sound unlike. written-shows eq laws answers s key hash value now step moment other sound unlike (held_at eq s.records key) refl;
    removed = λ eq laws answers s key moment other apart. removed-shows eq laws answers s moment other (to-records eq s.records apart) (held_at eq s.records key);
    read = λ eq answers s key hash now other sound. read-shows eq answers s key hash now other sound (visible_record answers eq s now key) refl;
    removal_told = λ eq answers s e now moment other. told-shows eq answers s now moment other e;
    room = λ eq answers s moment other. refl;
    released = λ eq answers s moment other. refl;
    taken = λ eq answers s moment other. refl;
  }

  pub calls_keep_apart : CallsKeepApart K V P S R
  calls_keep_apart = record {
    written = λ eq laws answers s key hash value now step sound h. from-records eq _ (written-apart eq laws answers s key hash value now step (held_at eq s.records key) refl sound (to-records eq s.records h));
    removed = λ eq laws key s h. from-records eq _ (removed-apart eq laws s (held_at eq s.records key) (to-records eq s.records h));
    read = λ eq laws answers s found hash now h. from-records eq _ (read-apart eq laws answers s found hash now (to-records eq s.records h));
  }
