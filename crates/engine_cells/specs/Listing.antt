-- Held records by their places, and their keys.
use Rattle.std.specs.Prelude.{ℕ, ◌+◌, if◌then◌else◌, List, [], ◌∷◌, ◌++◌, Option, Some, None}
use Rattle.engine_reference.specs.declared.data.Record.{Record}
use Rattle.engine_cells.specs.declared.listing.Stand.{Stand}
use Rattle.engine_cells.specs.Cells.{cell_at}

module _ {K V : Type 0} where
  -- the held record in a place
  abbrev pub stand_of : ℕ → Option (Record K V) → List Stand
  stand_of place None = []
  stand_of place (Some c) = if c.is_held then (record {
    number = c.number;
    place = place;
  }) ∷ [] else []

  -- the held records of cells, the first of which is in this place
  abbrev pub stands_from : ℕ → List (Option (Record K V)) → List Stand
  stands_from place [] = []
  stands_from place (o ∷ cells) = stand_of place o ++ stands_from (place + 1) cells

  -- the key of the record in a cell
  abbrev pub cell_key : Option (Record K V) → List K
  cell_key None = []
  cell_key (Some c) = c.entry.key ∷ []

  -- the keys of records by their places
  abbrev pub keys_in : List (Option (Record K V)) → List Stand → List K
  keys_in cells [] = []
  keys_in cells (s ∷ ss) = cell_key (cell_at cells s.place) ++ keys_in cells ss
