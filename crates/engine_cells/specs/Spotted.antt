-- Cells and the spots of their keys' hashes.
use Rattle.std.specs.Prelude.{◌≡◌, ℕ, ◌==◌, Bool, true, false, ◌&&◌, List, Option, Some, None}
use Rattle.engine_cells.specs.Keys.Spots.{tag_of, Spots, IsUnder, LeavesFrom}
use Rattle.engine_reference.specs.declared.data.Record.{Record}
use Rattle.engine_cells.specs.Cells.{cell_at}

module _ {K V : Type 0} where
  -- a place has a held record under a hash
  pub record HoldsAt (cells : List (Option (Record K V))) (hash place : ℕ) : Type 0 where
    pub cell : Record K V
    pub there : cell_at cells place ≡ Some cell
    pub held : cell.is_held ≡ true
    pub tag_is : tag_of cell.hash ≡ tag_of hash

  -- the hash of each held record is that of its key
  abbrev pub AreHashed : (K → ℕ) → List (Option (Record K V)) → Type 0
  AreHashed hash_of cells =
      (i : ℕ) (c : Record K V) → cell_at cells i ≡ Some c → c.is_held ≡ true
      → c.hash ≡ hash_of c.entry.key

module _ {K V : Type 0} where
  -- there is a cell, and its record has this number
  abbrev pub holds_number : ℕ → Option (Record K V) → Bool
  holds_number number None = false
  holds_number number (Some c) = c.number == number

  -- the record with a number, if it is there, is held and has this hash
  abbrev pub IsHeldUnder : ℕ → ℕ → List (Option (Record K V)) → Type 0
  IsHeldUnder number hash cells =
      (i : ℕ) (c : Record K V) → cell_at cells i ≡ Some c → holds_number number (Some c) ≡ true
      → (c.is_held ≡ true) × (c.hash ≡ hash)

-- a place is removed from under a hash, if it has to be
abbrev pub LeavesIf : Bool → Spots → Spots → ℕ → ℕ → Type 0
LeavesIf true old new hash place = LeavesFrom old new hash place
LeavesIf false old new hash place = new ≡ old

module _ {K V : Type 0} (eq : K → K → Bool) where
  -- a cell's record is held, and its key compares equal
  abbrev pub is_match : K → Option (Record K V) → Bool
  is_match key None = false
  is_match key (Some c) = c.is_held && eq key c.entry.key

  -- the place of each held record is under its hash, and nothing else is, and no two held records have equal keys
  pub record AreSpotted (cells : List (Option (Record K V))) (spots : Spots) : Type 0 where
    pub spotted : (i : ℕ) (c : Record K V) → cell_at cells i ≡ Some c → c.is_held ≡ true
        → IsUnder spots c.hash i
    pub only : (hash i : ℕ) → IsUnder spots hash i → HoldsAt cells hash i
    pub single : (key : K) (i j : ℕ) → is_match key (cell_at cells i) ≡ true
        → is_match key (cell_at cells j) ≡ true → i ≡ j

  -- held records with equal keys have this hash
  abbrev pub HaveHash : K → ℕ → List (Option (Record K V)) → Type 0
  HaveHash key hash cells =
      (i : ℕ) (c : Record K V) → cell_at cells i ≡ Some c → is_match key (Some c) ≡ true
      → c.hash ≡ hash
