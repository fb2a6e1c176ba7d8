-- What a contract sees of the tables: the state of the reference cache, and the number of the record in each place.
use Rattle.std.specs.Prelude.{◌≡◌, ℕ, Bool, true, false, not, ◌==◌, ◌&&◌, List, Option, Some, None, is_some, slice_get, slice_index_or}
use Rattle.std.specs.Option.{option_and_then}
use Rattle.engine_reference.specs.declared.data.Record.{Record}
use Rattle.engine_reference.specs.Records.{record_at}
use Rattle.engine_reference.specs.State.{State}

pub record Kept (K V P S R : Type 0) : Type 0 where
  pub state : State K V P S R
  pub numbers : List (Option ℕ)

-- the number of the record in a place
abbrev pub numbered_at : List (Option ℕ) → ℕ → Option ℕ
numbered_at numbers place = slice_index_or numbers place None

-- the record in a place
abbrev pub kept_at : {K V P S R : Type 0} → Kept K V P S R → ℕ → Option (Record K V)
kept_at t place = option_and_then (λ n. record_at t.state.records n) (numbered_at t.numbers place)

-- the place has the record of the first of these numbers, and it is admitted
abbrev pub StandsFirst : {K V P S R : Type 0} → Kept K V P S R → List ℕ → ℕ → Type 0
StandsFirst {K} {V} t numbers place =
    (r : Record K V) × (kept_at t place ≡ Some r) × (slice_get numbers 0 ≡ Some r.number)
    × (is_some r.counts ≡ true)

-- there is a record, with this number, and it is admitted
abbrev pub is_admitted_as : {K V : Type 0} → ℕ → Option (Record K V) → Bool
is_admitted_as number None = false
is_admitted_as number (Some r) = (r.number == number) && is_some r.counts

-- there is a record, with this number, and it is not held
abbrev pub is_removed_as : {K V : Type 0} → ℕ → Option (Record K V) → Bool
is_removed_as number None = false
is_removed_as number (Some r) = (r.number == number) && not r.is_held
