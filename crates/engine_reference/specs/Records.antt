-- Definitions on lists of records: the record with a number, what is held, what counts.
use Rattle.std.specs.Prelude.{ℕ, ◌==◌, Bool, not, ◌&&◌, if◌then◌else◌, List, [], ◌∷◌, ◌++◌, Option, Some, None, filter, sum_by, count_by, is_some, unwrap_or}
use Rattle.engine_reference.specs.declared.data.Entry.{Entry}
use Rattle.engine_reference.specs.declared.data.Record.{Record}

-- a list of numbers without one of them
abbrev pub without : ℕ → List ℕ → List ℕ
without number ns = filter (λ n. not (n == number)) ns

-- a list of numbers with one of them moved to its back
abbrev pub moved_to_back : ℕ → List ℕ → List ℕ
moved_to_back number ns = without number ns ++ number ∷ []

module _ {K V : Type 0} where
  -- the record with a number
  abbrev pub record_at : List (Record K V) → ℕ → Option (Record K V)
  record_at [] number = None
  record_at (r ∷ rs) number = if r.number == number then Some r else record_at rs number

  -- the records without the one with a number
  abbrev pub without_record : ℕ → List (Record K V) → List (Record K V)
  without_record number [] = []
  without_record number (r ∷ rs) = if r.number == number then rs else r ∷ without_record number rs

  -- the records with the one with a number changed
  abbrev pub changed_at : ℕ → (Record K V → Record K V) → List (Record K V) → List (Record K V)
  changed_at number change [] = []
  changed_at number change (r ∷ rs) =
      if r.number == number then change r ∷ rs else r ∷ changed_at number change rs

  -- the entries of the keys that are held
  abbrev pub held_entries : List (Record K V) → List (Entry K V)
  held_entries [] = []
  held_entries (r ∷ rs) = if r.is_held then r.entry ∷ held_entries rs else held_entries rs

  -- the record of a key, if it is held
  abbrev pub held_at : (K → K → Bool) → List (Record K V) → K → Option (Record K V)
  held_at eq [] key = None
  held_at eq (r ∷ rs) key = if r.is_held && eq key r.entry.key then Some r else held_at eq rs key

  -- the weight of everything that is held, whether admitted or not
  abbrev pub held_weight : List (Record K V) → ℕ
  held_weight rs = sum_by (λ e. e.weight) (held_entries rs)

  -- how many records are admitted, and their total weight
  abbrev pub admitted_number : List (Record K V) → ℕ
  admitted_number rs = count_by (λ r. is_some r.counts) rs

  abbrev pub weight_at : Record K V → ℕ
  weight_at r = unwrap_or r.counts 0

  abbrev pub admitted_weight : List (Record K V) → ℕ
  admitted_weight rs = sum_by weight_at rs

  -- no write or removal of it is still to be applied
  abbrev pub is_settled : Record K V → Bool
  is_settled r = r.writes == r.applied

  abbrev pub with_settled : Option (Record K V) → List (Record K V) → List (Record K V)
  with_settled None rest = rest
  with_settled (Some r) rest = if is_settled r then r ∷ rest else rest

  -- the settled records of an access list, in its order
  abbrev pub settled_in : List (Record K V) → List ℕ → List (Record K V)
  settled_in rs [] = []
  settled_in rs (n ∷ ns) = with_settled (record_at rs n) (settled_in rs ns)

  abbrev pub with_admitted : Option (Record K V) → List (Record K V) → List (Record K V)
  with_admitted None rest = rest
  with_admitted (Some r) rest = if is_some r.counts then r ∷ rest else rest

  -- the admitted records of a list of numbers, in its order
  abbrev pub admitted_in : List (Record K V) → List ℕ → List (Record K V)
  admitted_in rs [] = []
  admitted_in rs (n ∷ ns) = with_admitted (record_at rs n) (admitted_in rs ns)
