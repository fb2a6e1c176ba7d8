-- What walks over cells look for.
use Rattle.std.specs.Prelude.{◌≡◌, ℕ, ◌==◌, Bool, false, ◌&&◌, if◌then◌else◌, List, [], ◌∷◌, Option, Some, None}
use Rattle.engine_reference.specs.declared.data.Record.{Record}
use Rattle.engine_reference.specs.Records.{is_settled, settled_in}
use Rattle.engine_reference.specs.Runs.{first_of}
use Rattle.engine_reference.specs.Times.{is_reached}
use Rattle.engine_cells.specs.Cells.{cell_at, records_by_number, numbers_in}

-- the numbers of a list after one of them
abbrev pub behind : ℕ → List ℕ → List ℕ
behind number [] = []
behind number (n ∷ ns) = if n == number then ns else behind number ns

module _ {K V : Type 0} where
  -- a record is held, and its own expiration was reached
  abbrev pub is_expired : ℕ → Record K V → Bool
  is_expired now r = r.is_held && is_reached r.entry.expires now

  -- there is a record, and it is settled
  abbrev pub is_settled_as : Option (Record K V) → Bool
  is_settled_as None = false
  is_settled_as (Some r) = is_settled r

  -- a place has the first settled record of a list that these places represent
  abbrev pub HasFirstSettled : List (Option (Record K V)) → List ℕ → ℕ → Type 0
  HasFirstSettled cells places place =
      (r : Record K V) × (cell_at cells place ≡ Some r)
      × (first_of (settled_in (records_by_number cells) (numbers_in cells places)) ≡ Some r)
