-- What a slab of records represents: records in the order of their creation, and lists of their numbers.
use Rattle.std.specs.Prelude.{◌≡◌, ℕ, ◌<◌, nat_lt, Bool, false, List, [], ◌∷◌, map, Option, Some, None, is_some, if◌then◌else◌, slice_index_or, option_map, unwrap_or}
use Rattle.policy_queue.specs.Indices.{IndicesDiffer, has_index}
use Rattle.engine_reference.specs.declared.data.Record.{Record}

-- the content of a place
abbrev pub cell_at : {X : Type 0} → List (Option X) → ℕ → Option X
cell_at cells i = slice_index_or cells i None

module _ {K V : Type 0} where
  -- a record among others, before the first of a larger number
  abbrev pub put_among : Record K V → List (Record K V) → List (Record K V)
  put_among r [] = r ∷ []
  put_among r (x ∷ xs) = if nat_lt r.number x.number then r ∷ x ∷ xs else x ∷ put_among r xs

  -- the records of cells, by rising number, which is the order of their creation
  abbrev pub records_by_number : List (Option (Record K V)) → List (Record K V)
  records_by_number [] = []
  records_by_number (None ∷ cells) = records_by_number cells
  records_by_number (Some r ∷ cells) = put_among r (records_by_number cells)

  -- the number in each place
  abbrev pub numbers_of : List (Option (Record K V)) → List (Option ℕ)
  numbers_of cells = map (λ o. option_map (λ r. r.number) o) cells

  -- the number of the record in a place that has one
  abbrev pub place_number : List (Option (Record K V)) → ℕ → ℕ
  place_number cells i = unwrap_or (option_map (λ r. r.number) (cell_at cells i)) 0

  -- the numbers that places represent
  abbrev pub numbers_in : List (Option (Record K V)) → List ℕ → List ℕ
  numbers_in cells places = map (λ i. place_number cells i) places

  -- no number occurs twice
  abbrev pub HaveOwnNumbers : List (Option (Record K V)) → Type 0
  HaveOwnNumbers cells =
      (i j : ℕ) (c d : Record K V) → cell_at cells i ≡ Some c → cell_at cells j ≡ Some d
      → c.number ≡ d.number → i ≡ j

  -- each record has a number of its own, below the next one
  pub record AreNumberedBelow (cells : List (Option (Record K V))) (next : ℕ) : Type 0 where
    pub apart : HaveOwnNumbers cells
    pub below : (i : ℕ) (c : Record K V) → cell_at cells i ≡ Some c → c.number < next

  -- there is a record, and it is admitted
  abbrev pub has_counts : Option (Record K V) → Bool
  has_counts None = false
  has_counts (Some r) = is_some r.counts

  -- these places are those of the admitted records, each once
  pub record AreListed (cells : List (Option (Record K V))) (places : List ℕ) : Type 0 where
    pub once : IndicesDiffer places
    pub listed : (i : ℕ) → has_index i places ≡ has_counts (cell_at cells i)
