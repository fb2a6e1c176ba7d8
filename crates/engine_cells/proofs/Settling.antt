-- A walk over a list of places that seeks the first settled record.
use Rattle.std.proofs.Common.{◌≡◌, ℕ, ◌<◌, true, false, cond, List, [], ◌∷◌, length, Option, Some, ap, sym, ◌∙◌, inl, inr, arith}
use Rattle.std.proofs.lemmas.Bool.{cases_eq, cond-true, cond-false, eq-eqb, ne_eqb}
use Rattle.std.proofs.lemmas.Option.{none-some, same_Some}
use Rattle.policy_queue.specs.Indices.{has_index, from_index}
use Rattle.policy_queue.specs.Places.{slots_from}
use Rattle.policy_queue.specs.Queue.{head, tail}
use Rattle.policy_queue.proofs.Standing.{next_slots}
use Rattle.engine_reference.specs.declared.data.Record.{Record}
use Rattle.engine_reference.specs.Runs.{first_of}
use Rattle.engine_reference.specs.Records.{record_at, settled_in, with_settled, is_settled}
use Rattle.engine_cells.specs.Cells.{cell_at, records_by_number, numbers_in, HaveOwnNumbers, AreListed}
use Rattle.engine_cells.specs.Looking.{is_settled_as}
use Rattle.engine_cells.proofs.Changes.{stood}
use Rattle.engine_cells.proofs.Indexed.{has_first, has_behind}
use Rattle.engine_cells.proofs.Listed.{record_at-there}

-- what is behind a place was there
pub has_further : (j x : ℕ) (xs : List ℕ) → has_index j (from_index x xs) ≡ true → has_index j xs ≡ true
has_further j x [] h = h
has_further j x (i ∷ xs) h = elim (cases_eq i x) [
  | inl e ↦ sym (ap (has_index j) (cond-true _ _ _ (eq-eqb i x e))) ∙ h
  | inr d ↦ has_behind j i xs (has_further j x xs (sym (ap (has_index j) (cond-false _ _ _ (ne_eqb i x d))) ∙ h))
]

head_tail : (ys : List ℕ) (x : ℕ) → head ys ≡ Some x → ys ≡ x ∷ tail ys
head_tail [] x e = absurd (none-some x e)
head_tail (y ∷ ys) x e = ap (λ i. i ∷ ys) (same_Some y x e)

pub has_tail : (j : ℕ) (xs : List ℕ) → has_index j (tail xs) ≡ true → has_index j xs ≡ true
has_tail j [] h = h
has_tail j (i ∷ xs) h = has_behind j i xs h

module _ {K V : Type 0} (cells : List (Option (Record K V))) (xs : List ℕ) where
  abbrev settled : List ℕ → List (Record K V)
  settled places = settled_in (records_by_number cells) (numbers_in cells places)

  -- no record before the next place is settled
  pub record Seeks (next : Option ℕ) : Type 0 where
    pub same : settled xs ≡ settled (slots_from next xs)
    pub first : head (slots_from next xs) ≡ next

  module _ (apart : HaveOwnNumbers cells) (listed : AreListed cells xs) (x : ℕ) (h : Seeks (Some x)) where
    pub seeks_has : has_index x xs ≡ true
    seeks_has = has_further x x xs (ap (has_index x) (head_tail (from_index x xs) x h.first) ∙ has_first x (tail (from_index x xs)))

    here : settled xs ≡ with_settled (cell_at cells x) (settled (tail (from_index x xs)))
    here =
        let s = stood cells xs x listed seeks_has in
        h.same
        ∙ ap settled (head_tail (from_index x xs) x h.first)
        ∙ ap (λ n. with_settled (record_at (records_by_number cells) n) (settled (tail (from_index x xs)))) s.number
        ∙ ap (λ o. with_settled o (settled (tail (from_index x xs)))) (record_at-there cells x s.cell apart s.there ∙ sym s.there)

    pub seeks-less : (next : Option ℕ) → next ≡ head (tail (from_index x xs)) → length (slots_from next xs) < length (from_index x xs)
    seeks-less next e =
        let rest = ap length (ap (λ o. slots_from o xs) e ∙ next_slots x xs listed.once) in
        let whole = ap length (head_tail (from_index x xs) x h.first) in
        omega (arith, rest, whole)

    pub seeks-one : (next : Option ℕ) → is_settled_as (cell_at cells x) ≡ false → next ≡ head (tail (from_index x xs)) → Seeks next
    seeks-one next off e =
        let s = stood cells xs x listed seeks_has in
        let rest : slots_from next xs ≡ tail (from_index x xs) = ap (λ o. slots_from o xs) e ∙ next_slots x xs listed.once in
        let unsettled : is_settled s.cell ≡ false = sym (ap is_settled_as s.there) ∙ off in
        record {
          same =
              here
              ∙ ap (λ o. with_settled o (settled (tail (from_index x xs)))) s.there
              ∙ ap (λ b. cond b (s.cell ∷ settled (tail (from_index x xs))) (settled (tail (from_index x xs)))) unsettled
              ∙ ap settled (sym rest);
          first = ap head rest ∙ sym e;
        }

    pub seeks-found : is_settled_as (cell_at cells x) ≡ true → (r : Record K V) × (cell_at cells x ≡ Some r) × (first_of (settled xs) ≡ Some r)
    seeks-found on =
        let s = stood cells xs x listed seeks_has in
        let is : is_settled s.cell ≡ true = sym (ap is_settled_as s.there) ∙ on in (
          s.cell,
          s.there,
          ap first_of (here ∙ ap (λ o. with_settled o (settled (tail (from_index x xs)))) s.there)
              ∙ ap (λ b. first_of (cond b (s.cell ∷ settled (tail (from_index x xs))) (settled (tail (from_index x xs))))) is,
        )
