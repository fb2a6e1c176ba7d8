-- Walks over cells and queues.
use Rattle.std.proofs.Common.{inr, inl, ◌≡◌, refl, sym, ◌∙◌, ℕ, ◌<◌, zero, suc, arith, length, true, eqb, List, [], ◌∷◌, Option, Some, None}
use Rattle.std.specs.Prelude.{IfSome, IfNone, OnOk, OnErr, Result, Ok, Err, option_map, is_some}
use Rattle.engine_reference.specs.declared.data.Record.{Record}
use Rattle.engine_reference.specs.Records.{record_at}
use Rattle.engine_cells.specs.Cells.{cell_at, records_by_number, numbers_of, HaveOwnNumbers}
use Rattle.engine_cells.proofs.Listed.{apart-later, first-alone}
use Rattle.engine_cells.proofs.Placed.{record_at-put_among}
use Rattle.std.proofs.lemmas.Bool.{cases_Bool}

-- what is told of an answer, told otherwise
pub found-map : (P Q : ℕ → Type 0) → ((i : ℕ) → P i → Q i) → (o : Option ℕ) → IfSome o P → IfSome o Q
found-map P Q f None h = tt
found-map P Q f (Some i) h = f i h

pub both-map : (P Q R : ℕ → Type 0) → ((i : ℕ) → P i → Q i → R i) → (o : Option ℕ) → IfSome o P → IfSome o Q → IfSome o R
both-map P Q R f None h k = tt
both-map P Q R f (Some i) h k = f i h k

pub some-of : {X : Type 0} (o : Option X) → is_some o ≡ true → (x : X) × (o ≡ Some x)
some-of None h = absurd (cc)
some-of (Some x) h = (x, refl)

pub ok-map : {T E : Type 0} (P Q : Type 0) → (P → Q) → (r : Result T E) → OnOk r P → OnOk r Q
ok-map P Q f (Ok x) h = f h
ok-map P Q f (Err e) h = tt

pub by-result : {T E : Type 0} (P Q Z : Type 0) → (P → Z) → (Q → Z) → (r : Result T E) → OnOk r P → OnErr r Q → Z
by-result P Q Z f g (Ok x) h k = f h
by-result P Q Z f g (Err e) h k = g k

pub some-mapped : {X Y : Type 0} (f : X → Y) (o : Option X) → is_some (option_map f o) ≡ is_some o
some-mapped f None = refl
some-mapped f (Some x) = refl

pub none-map : (P Q : Type 0) → (P → Q) → (o : Option ℕ) → IfNone o P → IfNone o Q
none-map P Q f None h = f h
none-map P Q f (Some i) h = tt

module _ {K V : Type 0} where
  -- a record among the records of cells stands in a place
  pub record Stands (cells : List (Option (Record K V))) (r : Record K V) : Type 0 where
    pub place : ℕ
    pub cell : Record K V
    pub there : cell_at cells place ≡ Some cell
    pub is : cell ≡ r

  later_place : (o : Option (Record K V)) (cells : List (Option (Record K V))) (r : Record K V) → Stands cells r → Stands (o ∷ cells) r
  later_place o cells r p = record { place = suc p.place; cell = p.cell; there = p.there; is = p.is }

  pub place-there : (cells : List (Option (Record K V))) (n : ℕ) (r : Record K V) → HaveOwnNumbers cells → record_at (records_by_number cells) n ≡ Some r → Stands cells r
  place-there [] n r apart h = absurd (cc)
  place-there (None ∷ cells) n r apart h = later_place None cells r (place-there cells n r (apart-later None cells apart) h)
  place-there (Some c ∷ cells) n r apart h =
      elim (cases_Bool (eqb c.number n)) [
        | inl t ↦ let e = rw t at (sym (record_at-put_among c (records_by_number cells) n (first-alone c cells apart)) ∙ h) in let later = place-there cells n r (apart-later (Some c) cells apart) in record { place = zero; cell = c; there = refl; is = cc }
        | inr t ↦ let e = rw t at (sym (record_at-put_among c (records_by_number cells) n (first-alone c cells apart)) ∙ h) in later_place (Some c) cells r ((place-there cells n r (apart-later (Some c) cells apart)) e)
      ]

  -- each cell has its number
  pub many-numbers : (cells : List (Option (Record K V))) → length (numbers_of cells) ≡ length cells
  many-numbers [] = refl
  many-numbers (o ∷ cells) = let later = many-numbers cells in omega (arith, later)

  pub numbers-within : (cells : List (Option (Record K V))) (i : ℕ) (c : Record K V) → cell_at cells i ≡ Some c → i < length (numbers_of cells)
  numbers-within [] i c h = absurd (cc)
  numbers-within (o ∷ cells) zero c h = omega arith
  numbers-within (o ∷ cells) (suc i) c h = let later = numbers-within cells i c h in omega (arith, later)
