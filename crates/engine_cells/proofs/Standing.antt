-- What stands behind a number of a list, and that each stands there once.
use Rattle.std.proofs.Common.{◌≡◌, refl, ap, sym, ◌∙◌, subst, ℕ, Bool, true, false, true≢false, cond, List, [], ◌∷◌, map, Option, Some, None, is_some, inl, inr, eqb, ◌&&◌}
use Rattle.std.proofs.lemmas.Bool.{eq-eqb, eqb-true, ne_eqb}
use Rattle.policy_queue.specs.Indices.{IndicesDiffer, Lacks, has_index, from_index}
use Rattle.policy_queue.specs.Queue.{tail}
use Rattle.engine_reference.specs.declared.data.Record.{Record}
use Rattle.engine_reference.specs.Records.{record_at}
use Rattle.engine_reference.specs.Soundness.{AreOnce, IsIn}
use Rattle.engine_cells.specs.Cells.{cell_at, records_by_number, place_number, numbers_in, numbers_of, HaveOwnNumbers, AreListed}
use Rattle.engine_cells.specs.Kept.{is_admitted_as}
use Rattle.engine_cells.specs.Looking.{behind}
use Rattle.engine_cells.specs.Noting.{AimsOnlyAt}
use Rattle.engine_cells.proofs.Changes.{stood, names}
use Rattle.engine_cells.proofs.Indexed.{Names, has_first, has_behind}
use Rattle.engine_cells.proofs.Listed.{record_at-there}
use Rattle.engine_cells.proofs.Pointing.{gone-elsewhere}

numbers-behind : (f : ℕ → ℕ) (x num : ℕ) (xs : List ℕ) → ((j : ℕ) → has_index j xs ≡ true → Names f f x num j) → map f (tail (from_index x xs)) ≡ behind num (map f xs)
numbers-behind f x num [] h = refl
numbers-behind f x num (i ∷ xs) h = go (eqb i x) (eqb (f i) num) (h i (has_first i xs)).named (numbers-behind f x num xs (λ j has. h j (has_behind j i xs has)))
  where
    go : (b t : Bool) → t ≡ b → map f (tail (from_index x xs)) ≡ behind num (map f xs) → map f (tail (cond b (i ∷ xs) (from_index x xs))) ≡ cond t (map f xs) (behind num (map f xs))
    go true true e later = refl
    go false false e later = later
    go true false e later = absurd (cc)
    go false true e later = absurd (cc)

not-among : (f : ℕ → ℕ) (x num : ℕ) (xs : List ℕ) → Lacks x xs → ((j : ℕ) → has_index j xs ≡ true → Names f f x num j) → IsIn num (map f xs) → ⊥
not-among f x num [] other h i = i
not-among f x num (j ∷ xs) other h (inl e) = true≢false (sym (eq-eqb (f j) num e) ∙ (h j (has_first j xs)).named ∙ ne_eqb j x other.0)
not-among f x num (j ∷ xs) other h (inr i) = not-among f x num xs other.1 (λ k has. h k (has_behind k j xs has)) i

module _ {K V : Type 0} where
  -- what is behind a record's place is what is behind its number
  pub list-behind : (cells : List (Option (Record K V))) (places : List ℕ) (i : ℕ) (c : Record K V) → HaveOwnNumbers cells → AreListed cells places → cell_at cells i ≡ Some c
      → numbers_in cells (tail (from_index i places)) ≡ behind c.number (numbers_in cells places)
  list-behind cells places i c apart h there = numbers-behind (place_number cells) i c.number places (names cells cells places i c apart h there (λ j other. refl))

  -- no number stands twice
  pub once-listed : (cells : List (Option (Record K V))) (all places : List ℕ) → HaveOwnNumbers cells → AreListed cells all → IndicesDiffer places → ((j : ℕ) → has_index j places ≡ true → has_index j all ≡ true) → AreOnce (numbers_in cells places)
  once-listed cells all [] apart h own in-all = tt
  once-listed cells all (i ∷ places) apart h own in-all =
      let s = stood cells all i h (in-all i (has_first i places)) in (
        (λ n. not-among (place_number cells) i s.cell.number places own.0 (λ j has. names cells cells all i s.cell apart h s.there (λ k other. refl) j (in-all j (has_behind j i places has))) (subst (λ m. IsIn m (numbers_in cells places)) s.number n)),
        once-listed cells all places apart h own.1 (λ j has. in-all j (has_behind j i places has)),
      )

  -- each that stands there is admitted
  pub admitted-listed : (cells : List (Option (Record K V))) (all places : List ℕ) (number : ℕ) → HaveOwnNumbers cells → AreListed cells all → ((j : ℕ) → has_index j places ≡ true → has_index j all ≡ true) → IsIn number (numbers_in cells places)
      → is_admitted_as number (record_at (records_by_number cells) number) ≡ true
  admitted-listed cells all [] number apart h in-all i = absurd i
  admitted-listed cells all (j ∷ places) number apart h in-all (inl e) =
      let s = stood cells all j h (in-all j (has_first j places)) in
      let same : s.cell.number ≡ number = sym s.number ∙ e in
      ap (λ m. is_admitted_as number (record_at (records_by_number cells) m)) (sym same)
      ∙ ap (λ o. is_admitted_as number o) (record_at-there cells j s.cell apart s.there)
      ∙ ap (λ b. b && is_some s.cell.counts) (eq-eqb s.cell.number number same)
      ∙ s.counts
  admitted-listed cells all (j ∷ places) number apart h in-all (inr i) = admitted-listed cells all places number apart h (λ k has. in-all k (has_behind k j places has)) i

  -- ---- the record of a number, which can only stand in one place

  pub number-there : (cells : List (Option (Record K V))) (place number : ℕ) (c : Record K V) → HaveOwnNumbers cells → cell_at cells place ≡ Some c → eqb c.number number ≡ true → record_at (records_by_number cells) number ≡ Some c
  number-there cells place number c apart there same =
      ap (λ n. record_at (records_by_number cells) n) (sym (eqb-true c.number number same)) ∙ record_at-there cells place c apart there

  pub number-gone : (cells : List (Option (Record K V))) (place number : ℕ) (c : Record K V) → HaveOwnNumbers cells → AimsOnlyAt (numbers_of cells) place number → cell_at cells place ≡ Some c → eqb c.number number ≡ false
      → record_at (records_by_number cells) number ≡ None
  number-gone cells place number c apart aims there other = gone-elsewhere cells place number apart aims (λ d at is.
      let f : Some d ≡ Some c = sym at ∙ there in
      let same : d ≡ c = cc in
      true≢false (sym (eq-eqb c.number number (ap (λ x. x.number) (sym same) ∙ is)) ∙ other))

  pub number-nowhere : (cells : List (Option (Record K V))) (place number : ℕ) → HaveOwnNumbers cells → AimsOnlyAt (numbers_of cells) place number → cell_at cells place ≡ None → record_at (records_by_number cells) number ≡ None
  number-nowhere cells place number apart aims none = gone-elsewhere cells place number apart aims (λ d at is. let f : Some d ≡ None = sym at ∙ none in cc)
