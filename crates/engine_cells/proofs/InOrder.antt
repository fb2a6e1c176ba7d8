-- The held records in the order of their numbers, and their keys.
use Rattle.std.proofs.Common.{inr, inl, ◌≡◌, refl, ap, sym, ◌∙◌, ℕ, ◌+◌, suc, zero, arith, cond, eqb, List, [], ◌∷◌, ◌++◌, Option, Some, None}
use Rattle.std.specs.Prelude.{map, sum_by}
use Rattle.std.specs.List.{AllByRecursion}
use Rattle.std.specs.List.Sorted.{IsPermutation, IsNonDecreasingBy}
use Rattle.std.proofs.lemmas.Bool.{cond_both, cases_Bool, eq-eqb, ne_eqb}
use Rattle.std.proofs.lemmas.List.Elements.{All-from_recursion, recursion_from_All}
use Rattle.std.proofs.lemmas.List.Sorted.{All-permutation, sum_by-IsPermutation}
use Rattle.std.proofs.lemmas.List.Sums.{sum_by-cons}
use Rattle.engine_reference.specs.declared.data.Record.{Record}
use Rattle.engine_reference.specs.Records.{record_at}
use Rattle.engine_reference.specs.Scanning.{held_keys}
use Rattle.engine_cells.specs.declared.listing.Stand.{Stand}
use Rattle.engine_cells.specs.Cells.{cell_at, records_by_number, HaveOwnNumbers}
use Rattle.engine_cells.specs.Listing.{stands_from, cell_key, keys_in}
use Rattle.engine_cells.specs.Tallying.{sum_over}
use Rattle.engine_cells.proofs.Listed.{record_at-there, records-rising}
use Rattle.engine_cells.proofs.Placed.{AllAbove, AreRising}
use Rattle.engine_cells.proofs.Sorting.{count, AllFrom, NeverFall, same-counts, sorted-never_falls}
use Rattle.engine_cells.proofs.Totals.{sum_over-is}
use Rattle.std.proofs.lemmas.Bool.Decides.{nat_tests}

listed-counted : (n : ℕ) (ss : List Stand) → count n (map (λ s. s.number) ss) ≡ sum_by (λ (s : Stand). cond (eqb s.number n) 1 0) ss
listed-counted n [] = refl
listed-counted n (s ∷ ss) = ap (λ m. cond (eqb s.number n) 1 0 + m) (listed-counted n ss) ∙ sym (sum_by-cons (λ (x : Stand). cond (eqb x.number n) 1 0) s ss)

module _ {K V : Type 0} where
  -- ---- numbers

  abbrev held_numbers : List (Record K V) → List ℕ
  held_numbers [] = []
  held_numbers (r ∷ rs) = cond r.is_held (r.number ∷ held_numbers rs) (held_numbers rs)

  abbrev part : ℕ → Record K V → ℕ
  part n r = cond r.is_held (cond (eqb r.number n) 1 0) 0

  numbers-counted : (n : ℕ) (rs : List (Record K V)) → count n (held_numbers rs) ≡ sum_by (part n) rs
  numbers-counted n [] = refl
  numbers-counted n (r ∷ rs) =
      (elim (cases_Bool r.is_held) [ inl e ↦ rw e (ap (λ m. cond (eqb r.number n) 1 0 + m) (numbers-counted n rs)) | inr e ↦ let later = numbers-counted n rs in rw e (omega arith) ]) ∙ sym (sum_by-cons (part n) r rs)

  stands-counted : (n k : ℕ) (cells : List (Option (Record K V))) → count n (map (λ s. s.number) (stands_from k cells)) ≡ sum_over (part n) cells
  stands-counted n k [] = refl
  stands-counted n k (None ∷ cells) = stands-counted n (k + 1) cells
  stands-counted n k (Some c ∷ cells) = let next = stands-counted n (k + 1) cells in grind (arith, nat_tests, next)

  numbers-above : (x : ℕ) (rs : List (Record K V)) → AllAbove x rs → AllFrom x (held_numbers rs)
  numbers-above x [] h = tt
  numbers-above x (r ∷ rs) h = let next = numbers-above x rs h.1 in grind (arith, nat_tests, next)

  numbers-rise : (rs : List (Record K V)) → AreRising rs → NeverFall (held_numbers rs)
  numbers-rise [] h = tt
  numbers-rise (r ∷ rs) h = cond_both r.is_held _ _ NeverFall (λ _. (numbers-above r.number rs h.0, (numbers-rise rs h.1))) (λ _. numbers-rise rs h.1)

  -- what was sorted has the numbers of the held records
  numbers-sorted : (cells : List (Option (Record K V))) (ss : List Stand) → HaveOwnNumbers cells → IsPermutation (stands_from 0 cells) ss → IsNonDecreasingBy (λ s. s.number) ss → map (λ s. s.number) ss ≡ held_numbers (records_by_number cells)
  numbers-sorted cells ss apart same sorted =
      same-counts (map (λ s. s.number) ss) (held_numbers (records_by_number cells)) (sorted-never_falls (λ s. s.number) ss sorted) (numbers-rise (records_by_number cells) (records-rising cells apart)) (λ n.
      listed-counted n ss
      ∙ sum_by-IsPermutation (λ (s : Stand). cond (eqb s.number n) 1 0) (stands_from 0 cells) ss same
      ∙ sym (listed-counted n (stands_from 0 cells))
      ∙ stands-counted n 0 cells
      ∙ sym (sum_over-is (part n) cells)
      ∙ sym (numbers-counted n (records_by_number cells)))

  -- ---- keys

  abbrev key_at : Option (Record K V) → List K
  key_at None = []
  key_at (Some r) = r.entry.key ∷ []

  abbrev keys_by : List (Record K V) → List ℕ → List K
  keys_by rs [] = []
  keys_by rs (n ∷ ns) = key_at (record_at rs n) ++ keys_by rs ns

  abbrev AreOwn : List (Record K V) → List (Record K V) → Type 0
  AreOwn whole [] = Unit {0}
  AreOwn whole (x ∷ xs) = (record_at whole x.number ≡ Some x) × AreOwn whole xs

  own-later : (r : Record K V) (rs xs : List (Record K V)) → AllAbove r.number xs → AreOwn rs xs → AreOwn (r ∷ rs) xs
  own-later r rs [] h k = tt
  own-later r rs (x ∷ xs) h k =
      let above = h.0 in
      (ap (λ b. cond b (Some r) (record_at rs x.number)) (ne_eqb r.number x.number (λ e. omega arith)) ∙ k.0, own-later r rs xs h.1 k.1)

  own : (rs : List (Record K V)) → AreRising rs → AreOwn rs rs
  own [] h = tt
  own (r ∷ rs) h = (ap (λ b. cond b (Some r) (record_at rs r.number)) (eq-eqb r.number r.number refl), own-later r rs rs h.0 (own rs h.1))

  keys-held : (whole xs : List (Record K V)) → AreOwn whole xs → keys_by whole (held_numbers xs) ≡ held_keys xs
  keys-held whole [] h = refl
  keys-held whole (x ∷ xs) h = let next = keys-held whole xs h.1 in grind (arith, nat_tests, next)

  -- a stand leads to the record of its number
  abbrev Leads : List (Option (Record K V)) → Stand → Type 0
  Leads cells s = cell_key (cell_at cells s.place) ≡ key_at (record_at (records_by_number cells) s.number)

  all-lead : (whole : List (Option (Record K V))) (k : ℕ) (cells : List (Option (Record K V))) → HaveOwnNumbers whole → ((i : ℕ) → cell_at whole (k + i) ≡ cell_at cells i) → AllByRecursion (Leads whole) (stands_from k cells)
  all-lead whole k [] apart at = tt
  all-lead whole k (None ∷ cells) apart at = all-lead whole (k + 1) cells apart (λ i. ap (λ n. cell_at whole n) (let e : k + 1 + i ≡ k + suc i = omega arith in e) ∙ at (suc i))
  all-lead whole k (Some c ∷ cells) apart at =
      cond_both c.is_held _ _ (λ z. AllByRecursion (Leads whole) (z ++ stands_from (k + 1) cells)) (λ _. (ap (λ o. cell_key o) here ∙ sym (ap (λ o. key_at o) (record_at-there whole k c apart here)), (all-lead whole (k + 1) cells apart (λ i. ap (λ n. cell_at whole n) (let e : k + 1 + i ≡ k + suc i = omega arith in e) ∙ at (suc i))))) (λ _. all-lead whole (k + 1) cells apart (λ i. ap (λ n. cell_at whole n) (let e : k + 1 + i ≡ k + suc i = omega arith in e) ∙ at (suc i)))
    where
      here : cell_at whole k ≡ Some c
      here = ap (λ n. cell_at whole n) (let e : k ≡ k + zero = omega arith in e) ∙ at zero

  keys-lead : (cells : List (Option (Record K V))) (ss : List Stand) → AllByRecursion (Leads cells) ss → keys_in cells ss ≡ keys_by (records_by_number cells) (map (λ s. s.number) ss)
  keys-lead cells [] h = refl
  keys-lead cells (s ∷ ss) h = ap (λ l. l ++ keys_in cells ss) h.0 ∙ ap (λ l. key_at (record_at (records_by_number cells) s.number) ++ l) (keys-lead cells ss h.1)

  pub keys-sorted : (cells : List (Option (Record K V))) (ss : List Stand) → HaveOwnNumbers cells → IsPermutation (stands_from 0 cells) ss → IsNonDecreasingBy (λ s. s.number) ss → keys_in cells ss ≡ held_keys (records_by_number cells)
  keys-sorted cells ss apart same sorted =
      keys-lead cells ss (recursion_from_All (Leads cells) ss (All-permutation (Leads cells) (stands_from 0 cells) ss same (All-from_recursion (Leads cells) (stands_from 0 cells) (all-lead cells 0 cells apart (λ i. ap (λ n. cell_at cells n) (let e : 0 + i ≡ i = omega arith in e))))))
      ∙ ap (λ ns. keys_by (records_by_number cells) ns) (numbers-sorted cells ss apart same sorted)
      ∙ keys-held (records_by_number cells) (records_by_number cells) (own (records_by_number cells) (records-rising cells apart))
