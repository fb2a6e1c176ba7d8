-- The record of a number, looked for under the hash of its key.
use Rattle.std.proofs.Common.{arith, ◌≡◌, refl, ap, sym, ℕ, Bool, true, false, true≢false, eqb, List, Option, Some, None}
use Rattle.engine_cells.specs.Keys.Spots.{Spots, IsUnder}
use Rattle.engine_reference.specs.declared.data.Record.{Record}
use Rattle.engine_cells.specs.Cells.{cell_at}
use Rattle.engine_cells.specs.Spotted.{AreSpotted, IsHeldUnder, holds_number}
use Rattle.std.proofs.lemmas.Bool.Decides.{nat_tests}

module _ {K V : Type 0} where
  -- none of the hash's places has it, so no place has
  pub none-numbered : (eq : K → K → Bool) (cells : List (Option (Record K V))) (spots : Spots) (number hash : ℕ) → AreSpotted eq cells spots → IsHeldUnder number hash cells
      → ((i : ℕ) → IsUnder spots hash i → holds_number number (cell_at cells i) ≡ false) → (i : ℕ) → holds_number number (cell_at cells i) ≡ false
  none-numbered eq cells spots number hash h held none i = by (cell_at cells i) refl
    where
      by : (o : Option (Record K V)) → cell_at cells i ≡ o → holds_number number (cell_at cells i) ≡ false
      by None at = ap (holds_number number) at
      by (Some c) at = grind (arith, nat_tests, c, at)

  pub numbered-cell : (cells : List (Option (Record K V))) (i number : ℕ) → holds_number number (cell_at cells i) ≡ true → (c : Record K V) × (cell_at cells i ≡ Some c) × (eqb c.number number ≡ true)
  numbered-cell cells i number t = go (cell_at cells i) refl t
    where
      go : (o : Option (Record K V)) → cell_at cells i ≡ o → holds_number number o ≡ true → (c : Record K V) × (cell_at cells i ≡ Some c) × (eqb c.number number ≡ true)
      go None e t = absurd (true≢false (sym t))
      go (Some c) e t = (c, e, t)
