-- The held record of a key, among the records of cells.
use Rattle.std.proofs.Common.{inr, inl, ◌≡◌, refl, ap, ◌∙◌, ℕ, zero, suc, arith, Bool, true, false, cond, ◌&&◌, List, [], ◌∷◌, Option, Some, None}
use Rattle.std.specs.Prelude.{nat_lt}
use Rattle.std.proofs.lemmas.Bool.{cases_Bool}
use Rattle.engine_cells.specs.Keys.Spots.{Spots, IsUnder}
use Rattle.engine_reference.specs.declared.data.Record.{Record}
use Rattle.engine_reference.specs.Records.{held_at}
use Rattle.engine_cells.specs.Cells.{cell_at, put_among, records_by_number}
use Rattle.engine_cells.specs.Spotted.{is_match, AreSpotted, HaveHash}
use Rattle.std.proofs.lemmas.Bool.Decides.{nat_tests}

module _ {K V : Type 0} (eq : K → K → Bool) where
  -- a record that does not match is passed over
  held-placed_other : (key : K) (r : Record K V) (xs : List (Record K V)) → (r.is_held && eq key r.entry.key) ≡ false → held_at eq (put_among r xs) key ≡ held_at eq xs key
  held-placed_other key r [] h = ap (λ b. cond b (Some r) None) h
  held-placed_other key r (x ∷ xs) h = let next = held-placed_other key r xs h in grind (arith, nat_tests, next)

  -- one that does is found, where no other does
  held-placed_here : (key : K) (r : Record K V) (xs : List (Record K V)) → (r.is_held && eq key r.entry.key) ≡ true → held_at eq xs key ≡ None → held_at eq (put_among r xs) key ≡ Some r
  held-placed_here key r [] h none = ap (λ b. cond b (Some r) None) h
  held-placed_here key r (x ∷ xs) h none = go (nat_lt r.number x.number) (x.is_held && eq key x.entry.key) refl none (held-placed_here key r xs h)
    where
      go : (a b : Bool) → (x.is_held && eq key x.entry.key) ≡ b → cond b (Some x) (held_at eq xs key) ≡ None → (held_at eq xs key ≡ None → held_at eq (put_among r xs) key ≡ Some r) → held_at eq (cond a (r ∷ x ∷ xs) (x ∷ put_among r xs)) key ≡ Some r
      go a true e n later = absurd (cc)
      go true false e n later = ap (λ b. cond b (Some r) (held_at eq (x ∷ xs) key)) h
      go false false e n later = ap (λ b. cond b (Some x) (held_at eq (put_among r xs) key)) e ∙ later n

  pub held-none : (cells : List (Option (Record K V))) (key : K) → ((i : ℕ) → is_match eq key (cell_at cells i) ≡ false) → held_at eq (records_by_number cells) key ≡ None
  held-none [] key h = refl
  held-none (None ∷ cells) key h = held-none cells key (λ i. h (suc i))
  held-none (Some x ∷ cells) key h = held-placed_other key x (records_by_number cells) (h zero) ∙ held-none cells key (λ i. h (suc i))

  pub held-there : (cells : List (Option (Record K V))) (i : ℕ) (key : K) → is_match eq key (cell_at cells i) ≡ true → ((j : ℕ) → is_match eq key (cell_at cells j) ≡ true → i ≡ j) → held_at eq (records_by_number cells) key ≡ cell_at cells i
  held-there [] i key h alone = absurd (cc)
  held-there (None ∷ cells) zero key h alone = absurd (cc)
  held-there (Some x ∷ cells) zero key h alone =
      held-placed_here key x (records_by_number cells) h (held-none cells key (λ j. (elim (cases_Bool (is_match eq key (cell_at cells j))) [
        | inl is ↦ absurd (let k : zero ≡ suc j = alone (suc j) is in omega arith)
        | inr is ↦ is
      ])))
  held-there (None ∷ cells) (suc i) key h alone = held-there cells i key h (λ j e. let k : suc i ≡ suc j = alone (suc j) e in omega arith)
  held-there (Some x ∷ cells) (suc i) key h alone =
      held-placed_other key x (records_by_number cells) ((elim (cases_Bool (x.is_held && eq key x.entry.key)) [ inl is ↦ absurd (let k : suc i ≡ zero = alone zero is in omega arith) | inr is ↦ is ]))
      ∙ held-there cells i key h (λ j e. let k : suc i ≡ suc j = alone (suc j) e in omega arith)

  -- a key none of whose hash's places has its record is not held
  pub none-under : (cells : List (Option (Record K V))) (spots : Spots) (key : K) (hash : ℕ) → AreSpotted eq cells spots → HaveHash eq key hash cells → ((i : ℕ) → IsUnder spots hash i → is_match eq key (cell_at cells i) ≡ false)
      → held_at eq (records_by_number cells) key ≡ None
  none-under cells spots key hash h hashed none = held-none cells key (λ i. by i (cell_at cells i) refl)
    where
      by : (i : ℕ) (o : Option (Record K V)) → cell_at cells i ≡ o → is_match eq key (cell_at cells i) ≡ false
      by i None at = ap (is_match eq key) at
      by i (Some c) at = grind (arith, nat_tests, i, c, at)
