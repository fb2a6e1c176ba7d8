-- What a look-up found, and in which place.
use Rattle.std.specs.Prelude.{◌≡◌, ℕ, Bool, true, Option, Some, None, MatchOption}
use Rattle.engine_reference.specs.Scanning.{past}
use Rattle.engine_reference.specs.declared.data.Record.{Record}
use Rattle.engine_cells.specs.Kept.{Kept, kept_at}

module _ {K V P S R : Type 0} where
  -- a record was found in a place: it is held, and its key has this hash
  pub record IsFoundIn (t : Kept K V P S R) (hash : ℕ) (o : Option (Record K V)) (place : ℕ) :
      Type 0 where
    pub found : Record K V
    pub is : o ≡ Some found
    pub there : kept_at t place ≡ Some found
    pub held : found.is_held ≡ true
    pub hash_is : found.hash ≡ hash

  -- it was found, in its place, or nothing was
  abbrev pub WasFound : Kept K V P S R → ℕ → Option ℕ → Option (Record K V) → Type 0
  WasFound t hash place o = MatchOption place (o ≡ None) (IsFoundIn t hash o)

  -- what was found was asked about, and is passed over or not
  pub record PassesOver (Ignores : V → Bool → Type 0) (t : Kept K V P S R) (hash : ℕ)
      (o : Option (Record K V)) (place : Option ℕ) : Type 0 where
    pub ignored : Bool
    pub asked : (r : Record K V) → o ≡ Some r → Ignores r.entry.value ignored
    pub found : WasFound t hash place (past ignored o)
