-- Cells and a queue of their places, as a cell goes, comes, or comes to the back of the queue.
use Rattle.std.proofs.Common.{◌≡◌, ◌≢◌, refl, ap, sym, ◌∙◌, subst, ℕ, zero, suc, ◌+◌, ◌<◌, arith, true, true≢false, List, [], ◌∷◌, Option, Some, None, is_some, inl, inr, ◌⊎◌}
use Rattle.std.specs.Prelude.{option_map, unwrap_or, slice_set}
use Rattle.std.proofs.lemmas.Bool.{cases_eq, eq-eqb, ne_eqb}
use Rattle.std.proofs.lemmas.Option.{same_Some}
use Rattle.policy_queue.specs.Indices.{has_index, without_index, index_moved_to_back}
use Rattle.engine_reference.specs.declared.data.Record.{Record}
use Rattle.engine_reference.specs.Records.{without, moved_to_back}
use Rattle.engine_cells.specs.Cells.{cell_at, place_number, numbers_in, numbers_of, HaveOwnNumbers, AreNumberedBelow, has_counts, AreListed}
use Rattle.engine_cells.proofs.Indexed.{apart_left, apart_moved, has_gone, has_left, has_moved, has_others_moved, has_first, has_behind, Names, numbers_without, numbers_moved}

module _ {K V : Type 0} where
  -- the place i of the old cells has nothing in the new ones, and every other place is as it was
  pub record Loses (old new : List (Option (Record K V))) (i : ℕ) : Type 0 where
    pub gone : cell_at new i ≡ None
    pub others : (j : ℕ) → j ≢ i → cell_at new j ≡ cell_at old j

  -- the place i has this record, and every other place is as it was
  pub record Gets (old new : List (Option (Record K V))) (i : ℕ) (c : Record K V) : Type 0 where
    pub there : cell_at new i ≡ Some c
    pub others : (j : ℕ) → j ≢ i → cell_at new j ≡ cell_at old j

  elsewhere : (old new : List (Option (Record K V))) (i j : ℕ) (d : Record K V) → Loses old new i → cell_at new j ≡ Some d → j ≢ i
  elsewhere old new i j d h e same = let f : Some d ≡ None = sym e ∙ ap (λ k. cell_at new k) same ∙ h.gone in absurd (cc)

  pub was : (old new : List (Option (Record K V))) (i j : ℕ) (d : Record K V) → Loses old new i → cell_at new j ≡ Some d → cell_at old j ≡ Some d
  was old new i j d h e = sym (h.others j (elsewhere old new i j d h e)) ∙ e

  -- where it stands, or that it stood there before
  pub place_of : (old new : List (Option (Record K V))) (i j : ℕ) (c d : Record K V) → Gets old new i c → cell_at new j ≡ Some d → ((j ≡ i) × (d ≡ c)) ⊎ (cell_at old j ≡ Some d)
  place_of old new i j c d gets e = elim (cases_eq j i) [
    | inl same ↦ (let f : Some d ≡ Some c = sym e ∙ ap (λ k. cell_at new k) same ∙ gets.there in inl (same, cc))
    | inr apart ↦ inr (sym (gets.others j apart) ∙ e)
  ]

  -- ---- the record of a place that stands in a queue

  pub record Stood (cells : List (Option (Record K V))) (i : ℕ) : Type 0 where
    pub cell : Record K V
    pub there : cell_at cells i ≡ Some cell
    pub counts : is_some cell.counts ≡ true
    pub number : place_number cells i ≡ cell.number

  pub stood : (cells : List (Option (Record K V))) (places : List ℕ) (i : ℕ) → AreListed cells places → has_index i places ≡ true → Stood cells i
  stood cells places i h has = go (cell_at cells i) refl
    where
      go : (o : Option (Record K V)) → cell_at cells i ≡ o → Stood cells i
      go None at = absurd (true≢false (sym has ∙ h.listed i ∙ ap has_counts at))
      go (Some c) at = record {
        cell = c;
        there = at;
        counts = sym (ap has_counts at) ∙ sym (h.listed i) ∙ has;
        number = ap (λ o. unwrap_or (option_map (λ r. r.number) o) 0) at;
      }

  -- a place stands for the number of a record just where it is the record's own
  pub names : (old new : List (Option (Record K V))) (places : List ℕ) (i : ℕ) (c : Record K V) → HaveOwnNumbers old → AreListed old places → cell_at old i ≡ Some c → ((j : ℕ) → j ≢ i → cell_at new j ≡ cell_at old j)
      → (j : ℕ) → has_index j places ≡ true → Names (place_number old) (place_number new) i c.number j
  names old new places i c apart h there others j has =
      let s = stood old places j h has in
      record {
        named = elim (cases_eq j i) [
          | inl e ↦
              let same : s.cell ≡ c = same_Some _ _ (sym s.there ∙ ap (λ k. cell_at old k) e ∙ there) in
              eq-eqb (place_number old j) c.number (s.number ∙ ap (λ x. x.number) same) ∙ sym (eq-eqb j i e)
          | inr d ↦ ne_eqb (place_number old j) c.number (λ e. d (apart j i s.cell c s.there there (sym s.number ∙ e))) ∙ sym (ne_eqb j i d)
        ];
        same = λ d. ap (λ o. unwrap_or (option_map (λ r. r.number) o) 0) (others j d);
      }

  -- ---- a cell goes

  pub numbered-left : (old new : List (Option (Record K V))) (next i : ℕ) → AreNumberedBelow old next → Loses old new i → AreNumberedBelow new next
  numbered-left old new next i h loses = record {
    apart = λ a b d e at bt same. h.apart a b d e (was old new i a d loses at) (was old new i b e loses bt) same;
    below = λ a d at. h.below a d (was old new i a d loses at);
  }

  pub listed-left : (old new : List (Option (Record K V))) (places : List ℕ) (i : ℕ) → AreListed old places → Loses old new i → AreListed new (without_index i places)
  listed-left old new places i h loses = record {
    once = apart_left i places h.once;
    listed = λ j. elim (cases_eq j i) [
      | inl e ↦ ap (λ k. has_index k (without_index i places)) e ∙ has_gone i places h.once ∙ sym (ap (λ k. has_counts (cell_at new k)) e ∙ ap has_counts loses.gone)
      | inr d ↦ has_left j i places d ∙ h.listed j ∙ ap has_counts (sym (loses.others j d))
    ];
  }

  -- its number goes from the list
  pub list-left : (old new : List (Option (Record K V))) (places : List ℕ) (i : ℕ) (c : Record K V) → HaveOwnNumbers old → AreListed old places → cell_at old i ≡ Some c → Loses old new i
      → numbers_in new (without_index i places) ≡ without c.number (numbers_in old places)
  list-left old new places i c apart h there loses = numbers_without (place_number old) (place_number new) i c.number places h.once (names old new places i c apart h there loses.others)

  -- the numbers in the places, where a cell goes
  pub numbers_of-removed : (cells : List (Option (Record K V))) (i : ℕ) → numbers_of (slice_set cells i None) ≡ slice_set (numbers_of cells) i None
  numbers_of-removed [] i = refl
  numbers_of-removed (o ∷ cells) zero = refl
  numbers_of-removed (o ∷ cells) (suc i) = ap (λ l. option_map (λ x. x.number) o ∷ l) (numbers_of-removed cells i)

  -- ---- a cell comes

  pub numbered-inserted : (old new : List (Option (Record K V))) (next i : ℕ) (c : Record K V) → AreNumberedBelow old next → Gets old new i c → c.number ≡ next → AreNumberedBelow new (next + 1)
  numbered-inserted old new next i c h gets is = record {
    apart = λ a b d e at bt same. elim (place_of old new i a c d gets at) [
      | inl p ↦ elim (place_of old new i b c e gets bt) [
        | inl q ↦ p.0 ∙ sym q.0
        | inr g ↦ (let less = h.below b e g in let num : e.number ≡ next = sym same ∙ ap (λ x. x.number) p.1 ∙ is in absurd (omega arith))
      ]
      | inr f ↦ elim (place_of old new i b c e gets bt) [
        | inl q ↦ (let less = h.below a d f in let num : d.number ≡ next = same ∙ ap (λ x. x.number) q.1 ∙ is in absurd (omega arith))
        | inr g ↦ h.apart a b d e f g same
      ]
    ];
    below = λ a d at. elim (place_of old new i a c d gets at) [
      | inl p ↦ (let num : d.number ≡ next = ap (λ x. x.number) p.1 ∙ is in omega arith)
      | inr f ↦ (let less = h.below a d f in omega arith)
    ];
  }

  pub listed-inserted : (old new : List (Option (Record K V))) (places : List ℕ) (i : ℕ) (c : Record K V) → AreListed old places → cell_at old i ≡ None → Gets old new i c → c.counts ≡ None → AreListed new places
  listed-inserted old new places i c h vacant gets uncounted = record {
    once = h.once;
    listed = λ j. elim (cases_eq j i) [
      | inl e ↦
          ap (λ k. has_index k places) e
          ∙ h.listed i
          ∙ ap has_counts vacant
          ∙ sym (ap (λ k. has_counts (cell_at new k)) e ∙ ap has_counts gets.there ∙ ap (λ o. is_some o) uncounted)
      | inr d ↦ h.listed j ∙ ap has_counts (sym (gets.others j d))
    ];
  }

  same_numbers : (old new : List (Option (Record K V))) (places : List ℕ) → ((j : ℕ) → has_index j places ≡ true → cell_at new j ≡ cell_at old j) → numbers_in new places ≡ numbers_in old places
  same_numbers old new [] h = refl
  same_numbers old new (i ∷ places) h =
      ap (λ m. m ∷ numbers_in new places) (ap (λ o. unwrap_or (option_map (λ r. r.number) o) 0) (h i (has_first i places)))
      ∙ ap (λ l. place_number old i ∷ l) (same_numbers old new places (λ j has. h j (has_behind j i places has)))

  -- the list stays
  pub list-inserted : (old new : List (Option (Record K V))) (places : List ℕ) (i : ℕ) (c : Record K V) → AreListed old places → cell_at old i ≡ None → Gets old new i c → numbers_in new places ≡ numbers_in old places
  list-inserted old new places i c h vacant gets = same_numbers old new places (λ j has. gets.others j (λ e. true≢false (sym has ∙ ap (λ k. has_index k places) e ∙ h.listed i ∙ ap has_counts vacant)))

  -- ---- a cell changes, keeps its number, and comes to the back of the queue

  pub numbered-set : (old new : List (Option (Record K V))) (next i : ℕ) (c d : Record K V) → AreNumberedBelow old next → cell_at old i ≡ Some c → Gets old new i d → d.number ≡ c.number → AreNumberedBelow new next
  numbered-set old new next i c d h there gets same = record {
    apart = λ a b x y at bt is. elim (place_of old new i a d x gets at) [
      | inl p ↦ elim (place_of old new i b d y gets bt) [
        | inl q ↦ p.0 ∙ sym q.0
        | inr g ↦ p.0 ∙ h.apart i b c y there g (sym same ∙ sym (ap (λ z. z.number) p.1) ∙ is)
      ]
      | inr f ↦ elim (place_of old new i b d y gets bt) [
        | inl q ↦ h.apart a i x c f there (is ∙ ap (λ z. z.number) q.1 ∙ same) ∙ sym q.0
        | inr g ↦ h.apart a b x y f g is
      ]
    ];
    below = λ a x at. elim (place_of old new i a d x gets at) [
      | inl p ↦ subst (λ n. n < next) (sym (ap (λ z. z.number) p.1 ∙ same)) (h.below i c there)
      | inr f ↦ h.below a x f
    ];
  }

  pub listed-moved : (old new : List (Option (Record K V))) (places : List ℕ) (i : ℕ) (d : Record K V) → AreListed old places → Gets old new i d → is_some d.counts ≡ true → AreListed new (index_moved_to_back i places)
  listed-moved old new places i d h gets counts = record {
    once = apart_moved i places h.once;
    listed = λ j. elim (cases_eq j i) [
      | inl e ↦
          ap (λ k. has_index k (index_moved_to_back i places)) e
          ∙ has_moved i places
          ∙ sym (ap (λ k. has_counts (cell_at new k)) e ∙ ap has_counts gets.there ∙ counts)
      | inr other ↦ has_others_moved j i places other ∙ h.listed j ∙ ap has_counts (sym (gets.others j other))
    ];
  }

  -- its number is last
  pub list-moved : (old new : List (Option (Record K V))) (places : List ℕ) (i : ℕ) (c d : Record K V) → HaveOwnNumbers old → AreListed old places → cell_at old i ≡ Some c → Gets old new i d → d.number ≡ c.number
      → numbers_in new (index_moved_to_back i places) ≡ moved_to_back c.number (numbers_in old places)
  list-moved old new places i c d apart h there gets same =
      numbers_moved (place_number old) (place_number new) i c.number places h.once (names old new places i c apart h there gets.others) (ap (λ o. unwrap_or (option_map (λ r. r.number) o) 0) gets.there ∙ same)

  -- a cell that stays as it is
  pub gets-itself : (cells : List (Option (Record K V))) (i : ℕ) (c : Record K V) → cell_at cells i ≡ Some c → Gets cells cells i c
  gets-itself cells i c there = record { there = there; others = λ j apart. refl }
