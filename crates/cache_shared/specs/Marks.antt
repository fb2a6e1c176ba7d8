-- Marks in a row of places.
use Rattle.std.specs.Prelude.{◌≡◌, ℕ, ◌<◌, List, Bool, true, false, slice_index_or, cond}

-- how often the place is marked
abbrev pub marks : List Bool → ℕ → ℕ
marks seen k = cond (slice_index_or seen k false) 1 0

abbrev pub AllMarked : List Bool → ℕ → Type 0
AllMarked seen n = (k : ℕ) → k < n → slice_index_or seen k false ≡ true
