-- What is seen of cells: of a change that keeps numbers, and who is admitted.
use Rattle.std.proofs.Common.{◌≡◌, refl, ap, sym, ◌∙◌, subst, ℕ, zero, suc, ◌+◌, ◌<◌, Bool, false, cond, List, [], ◌∷◌, Option, Some, None, is_some}
use Rattle.std.specs.Prelude.{option_map, unwrap_or, slice_set, slice_index_or, count_by}
use Rattle.std.specs.Option.{option_and_then}
use Rattle.std.proofs.lemmas.List.Sums.{sum_by-cons}
use Rattle.engine_reference.specs.Records.{record_at}
use Rattle.engine_reference.specs.declared.data.Record.{Record}
use Rattle.engine_cells.specs.Cells.{cell_at, records_by_number, numbers_of, place_number, numbers_in, HaveOwnNumbers, AreNumberedBelow, has_counts, AreListed}
use Rattle.engine_cells.proofs.Listed.{record_at-there}

-- of a record: its number, and whether it is admitted
pub record Shape : Type 0 where
  pub number : ℕ
  pub admitted : Bool

module _ {K V : Type 0} where
  abbrev pub shape_of : Record K V → Shape
  shape_of c = record { number = c.number; admitted = is_some c.counts }

  abbrev pub AreAlike : List (Option (Record K V)) → List (Option (Record K V)) → Type 0
  AreAlike old new = (j : ℕ) → option_map shape_of (cell_at new j) ≡ option_map shape_of (cell_at old j)

  pub number-in : (cells : List (Option (Record K V))) (i : ℕ) → slice_index_or (numbers_of cells) i None ≡ option_map (λ c. c.number) (cell_at cells i)
  number-in [] i = refl
  number-in (o ∷ cells) zero = refl
  number-in (o ∷ cells) (suc i) = number-in cells i

  -- the record in a place, as its number finds it
  pub kept-in : (cells : List (Option (Record K V))) (i : ℕ) → HaveOwnNumbers cells → option_and_then (λ n. record_at (records_by_number cells) n) (slice_index_or (numbers_of cells) i None) ≡ cell_at cells i
  kept-in cells i apart = ap (λ o. option_and_then (λ n. record_at (records_by_number cells) n) o) (number-in cells i) ∙ go (cell_at cells i) refl
    where
      go : (o : Option (Record K V)) → cell_at cells i ≡ o → option_and_then (λ n. record_at (records_by_number cells) n) (option_map (λ c. c.number) o) ≡ o
      go None e = refl
      go (Some c) e = record_at-there cells i c apart e

  number-shape : (o : Option (Record K V)) → option_map (λ c. c.number) o ≡ option_map (λ s. s.number) (option_map shape_of o)
  number-shape None = refl
  number-shape (Some c) = refl

  counts-shape : (o : Option (Record K V)) → has_counts o ≡ unwrap_or (option_map (λ s. s.admitted) (option_map shape_of o)) false
  counts-shape None = refl
  counts-shape (Some c) = refl

  number-alike : (old new : List (Option (Record K V))) → AreAlike old new → (i : ℕ) → place_number new i ≡ place_number old i
  number-alike old new h i = ap (λ o. unwrap_or o 0) (number-shape (cell_at new i) ∙ ap (λ o. option_map (λ s. s.number) o) (h i) ∙ sym (number-shape (cell_at old i)))

  pub numbers-alike : (old new : List (Option (Record K V))) → AreAlike old new → (places : List ℕ) → numbers_in new places ≡ numbers_in old places
  numbers-alike old new h [] = refl
  numbers-alike old new h (i ∷ places) = ap (λ m. m ∷ numbers_in new places) (number-alike old new h i) ∙ ap (λ l. place_number old i ∷ l) (numbers-alike old new h places)

  pub listed-alike : (old new : List (Option (Record K V))) (places : List ℕ) → AreAlike old new → AreListed old places → AreListed new places
  listed-alike old new places h k = record {
    once = k.once;
    listed = λ i. k.listed i ∙ counts-shape (cell_at old i) ∙ ap (λ o. unwrap_or (option_map (λ s. s.admitted) o) false) (sym (h i)) ∙ sym (counts-shape (cell_at new i));
  }

  -- the cell that stood there before
  pub record Before (old : List (Option (Record K V))) (i : ℕ) (c : Record K V) : Type 0 where
    pub cell : Record K V
    pub there : cell_at old i ≡ Some cell
    pub alike : shape_of c ≡ shape_of cell

  pub before : (old new : List (Option (Record K V))) → AreAlike old new → (i : ℕ) (c : Record K V) → cell_at new i ≡ Some c → Before old i c
  before old new h i c e = go (cell_at old i) refl
    where
      go : (o : Option (Record K V)) → cell_at old i ≡ o → Before old i c
      go None f = absurd (let g : Some (shape_of c) ≡ None = sym (ap (λ o. option_map shape_of o) e) ∙ h i ∙ ap (λ o. option_map shape_of o) f in cc)
      go (Some d) f = record {
        cell = d;
        there = f;
        alike = let g : Some (shape_of c) ≡ Some (shape_of d) = sym (ap (λ o. option_map shape_of o) e) ∙ h i ∙ ap (λ o. option_map shape_of o) f in cc;
      }

  pub numbered-alike : (old new : List (Option (Record K V))) (next : ℕ) → AreAlike old new → AreNumberedBelow old next → AreNumberedBelow new next
  numbered-alike old new next h k = record {
    apart = λ i j c d e f same.
        let a = before old new h i c e in
        let b = before old new h j d f in
        k.apart i j a.cell b.cell a.there b.there (sym (ap (λ s. s.number) a.alike) ∙ same ∙ ap (λ s. s.number) b.alike);
    below = λ i c e.
        let a = before old new h i c e in
        subst (λ n. n < next) (sym (ap (λ s. s.number) a.alike)) (k.below i a.cell a.there);
  }

  -- one cell is changed
  pub alike-set : (cells : List (Option (Record K V))) (i : ℕ) (c d : Record K V) → cell_at cells i ≡ Some c → shape_of d ≡ shape_of c → AreAlike cells (slice_set cells i (Some d))
  alike-set [] i c d there same j = absurd (cc)
  alike-set (o ∷ cells) zero c d there same zero = ap (λ s. Some s) same ∙ sym (ap (λ p. option_map shape_of p) there)
  alike-set (o ∷ cells) zero c d there same (suc j) = refl
  alike-set (o ∷ cells) (suc i) c d there same zero = refl
  alike-set (o ∷ cells) (suc i) c d there same (suc j) = alike-set cells i c d there same j

  pub numbers_of-set : (cells : List (Option (Record K V))) (i : ℕ) (c d : Record K V) → cell_at cells i ≡ Some c → shape_of d ≡ shape_of c → numbers_of (slice_set cells i (Some d)) ≡ numbers_of cells
  numbers_of-set [] i c d there same = absurd (cc)
  numbers_of-set (o ∷ cells) zero c d there same = ap (λ n. n ∷ numbers_of cells) (ap (λ s. Some s.number) same ∙ sym (ap (λ p. option_map (λ x. x.number) p) there))
  numbers_of-set (o ∷ cells) (suc i) c d there same = ap (λ l. option_map (λ x. x.number) o ∷ l) (numbers_of-set cells i c d there same)

  -- as many places have a cell
  pub count-set : (cells : List (Option (Record K V))) (i : ℕ) (c d : Record K V) → cell_at cells i ≡ Some c → count_by is_some (slice_set cells i (Some d)) ≡ count_by is_some cells
  count-set [] i c d there = absurd (cc)
  count-set (o ∷ cells) zero c d there =
      sum_by-cons (λ p. cond (is_some p) 1 0) (Some d) cells
      ∙ sym (ap (λ p. cond (is_some p) 1 0 + count_by is_some cells) there)
      ∙ sym (sum_by-cons (λ p. cond (is_some p) 1 0) o cells)
  count-set (o ∷ cells) (suc i) c d there =
      sum_by-cons (λ p. cond (is_some p) 1 0) o (slice_set cells i (Some d))
      ∙ ap (λ n. cond (is_some o) 1 0 + n) (count-set cells i c d there)
      ∙ sym (sum_by-cons (λ p. cond (is_some p) 1 0) o cells)

  pub numbers_of-same : (cells : List (Option (Record K V))) (i : ℕ) (c d : Record K V) → cell_at cells i ≡ Some c → d.number ≡ c.number → numbers_of (slice_set cells i (Some d)) ≡ numbers_of cells
  numbers_of-same [] i c d there same = absurd (cc)
  numbers_of-same (o ∷ cells) zero c d there same = ap (λ n. n ∷ numbers_of cells) (ap (λ n. Some n) same ∙ sym (ap (λ p. option_map (λ x. x.number) p) there))
  numbers_of-same (o ∷ cells) (suc i) c d there same = ap (λ l. option_map (λ x. x.number) o ∷ l) (numbers_of-same cells i c d there same)
