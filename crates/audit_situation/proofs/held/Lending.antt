-- The values of a table as they are lent, in the order of their numbers.
use Rattle.std.proofs.Common.{arith, ◌≡◌, refl, sym, ap, ◌∙◌, subst, ℕ, ◌==◌, true, not, nat_lt, List, [], ◌∷◌, ◌++◌, map}
use Rattle.std.specs.BTreeMap.{insert_entry}
use Rattle.std.specs.List.{list_all}
use Rattle.std.specs.Ordering.{nat_cmp}
use Rattle.std.proofs.lemmas.Bool.{and_parts, not-true}
use Rattle.std.proofs.lemmas.List.{map-append, append-nil, append_assoc}
use Rattle.audit_model.specs.Situation.{HeldValue}
use Rattle.audit_situation.specs.Listings.{put_ranked, ranked}
use Rattle.audit_situation.specs.Held.Slots.{HeldSlot, Entry, slots_of, oldest_first, have_stamps_apart}
use Rattle.audit_situation.specs.Held.Seeing.{held_of}
use Rattle.audit_situation.specs.Held.Holds.{Open, held_by}
use Rattle.audit_situation.specs.declared.held.held.Seen.{Seen}
use Rattle.audit_situation.proofs.Ranked.{flip, apart-middle, all-map, ranked-all, ranked-snoc, ranked-map, rising}
use Rattle.audit_situation.proofs.held.Listing.{item_of}

abbrev pub shown : List (ℕ × Seen) → List (ℕ × HeldValue)
shown es = map (λ e. (e.0, held_of e.1)) es

abbrev by_number : ℕ × HeldValue → ℕ
by_number p = p.0

-- a new number goes to its place
insert_is : (es : List (ℕ × Seen)) (n : ℕ) (s : Seen) → list_all (λ p. not (n == p.0)) (shown es) ≡ true → shown (insert_entry nat_cmp es n s) ≡ put_ranked nat_lt by_number (n, held_of s) (shown es)
insert_is [] n s h = refl
insert_is (e ∷ es) n s h =
    let p = and_parts (not (n == e.0)) (list_all (λ p. not (n == p.0)) (shown es)) h in
    let own = not-true _ p.0 in
    let ih = insert_is es n s p.1 in
    grind (arith, own, ih)

module _ (keys : Open) (marks : List ℕ) (table : List HeldSlot) where
  abbrev numbered : Entry → ℕ × HeldValue
  numbered e = (e.1.stamp, held_by keys marks (item_of e))

  -- those that were gone through are lent in their order
  pub record Lending (rest : List Entry) (lent : List (ℕ × Seen)) : Type 0 where
    pub all : List Entry
    pub done : List Entry
    pub whole : all ≡ done ++ rest
    pub apart : have_stamps_apart all ≡ true
    pub is_table : oldest_first (slots_of all) ≡ table
    pub put : shown lent ≡ ranked nat_lt by_number (map numbered done)

  pub lending-start : (all : List Entry) → have_stamps_apart all ≡ true → oldest_first (slots_of all) ≡ table → Lending all []
  lending-start all a t = record { all = all; done = []; whole = refl; apart = a; is_table = t; put = refl }

  pub lending-more : (e : Entry) (rest : List Entry) (lent new : List (ℕ × Seen)) (s : Seen) → held_of s ≡ held_by keys marks (item_of e) → new ≡ insert_entry nat_cmp lent e.1.stamp s → Lending (e ∷ rest) lent → Lending rest new
  lending-more e rest lent new s is inserted l =
      let apart : list_all (λ d. not (e.1.stamp == d.1.stamp)) l.done ≡ true =
      apart-middle (λ d e. d.1.stamp == e.1.stamp) (λ d e. flip d.1.stamp e.1.stamp) l.done e rest (subst (λ es. have_stamps_apart es ≡ true) l.whole l.apart) in
      let others : list_all (λ (p : ℕ × HeldValue). not (e.1.stamp == p.0)) (map numbered l.done) ≡ true =
      all-map (λ (p : ℕ × HeldValue). not (e.1.stamp == p.0)) (λ (d : Entry). not (e.1.stamp == d.1.stamp)) numbered (λ d h. h) l.done apart in
      let ordered : list_all (λ (p : ℕ × HeldValue). not (e.1.stamp == p.0)) (shown lent) ≡ true =
      ap (list_all (λ (p : ℕ × HeldValue). not (e.1.stamp == p.0))) l.put ∙ ranked-all nat_lt by_number (λ p. not (e.1.stamp == p.0)) (map numbered l.done) others in
      record {
        all = l.all;
        done = l.done ++ e ∷ [];
        whole = l.whole ∙ sym (append_assoc l.done (e ∷ []) rest);
        apart = l.apart;
        is_table = l.is_table;
        put =
            ap shown inserted ∙ insert_is lent e.1.stamp s ordered ∙ ap (λ h. put_ranked nat_lt by_number (e.1.stamp, h) (shown lent)) is
            ∙ ap (put_ranked nat_lt by_number (numbered e)) l.put
            ∙ sym (ap (ranked nat_lt by_number) (map-append numbered l.done (e ∷ [])) ∙ ranked-snoc nat_lt rising by_number (map numbered l.done) (numbered e) others);
      }

  lent-shown : (es : List (ℕ × Seen)) → map (λ e. held_of e.1) es ≡ map (λ (p : ℕ × HeldValue). p.1) (shown es)
  lent-shown [] = refl
  lent-shown (e ∷ es) = ap (λ l. held_of e.1 ∷ l) (lent-shown es)

  abbrev from_slot : HeldSlot → ℕ × HeldValue
  from_slot s = (s.stamp, held_by keys marks s)

  by-slots : (es : List Entry) → map numbered es ≡ map from_slot (slots_of es)
  by-slots [] = refl
  by-slots (e ∷ es) = ap (λ l. numbered e ∷ l) (by-slots es)

  held-slots : (slots : List HeldSlot) → map (λ (p : ℕ × HeldValue). p.1) (map from_slot slots) ≡ map (held_by keys marks) slots
  held-slots [] = refl
  held-slots (s ∷ slots) = ap (λ l. held_by keys marks s ∷ l) (held-slots slots)

  pub lending-end : (lent : List (ℕ × Seen)) → Lending [] lent → map (λ e. held_of e.1) lent ≡ map (held_by keys marks) table
  lending-end lent l =
      lent-shown lent ∙ ap (map (λ (p : ℕ × HeldValue). p.1))
      (l.put ∙ ap (ranked nat_lt by_number) (ap (map numbered) (sym (append-nil l.done) ∙ sym l.whole) ∙ by-slots l.all) ∙ ranked-map nat_lt (λ s. s.stamp) by_number from_slot (λ s. refl) (slots_of l.all))
      ∙ held-slots (oldest_first (slots_of l.all)) ∙ ap (map (held_by keys marks)) l.is_table
