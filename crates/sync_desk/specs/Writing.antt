-- At which steps values were last written, in 64 places that hashes select.
use Rattle.std.specs.Prelude.{ℕ, ◌%◌, List, Option, Some, None, slice_index, slice_set}

-- the last write of a key with this hash, or of another that shares its place
abbrev pub last_in : (hash : ℕ) → List ℕ → ℕ
last_in hash steps = slice_index steps (hash % 64)

-- a write of a key with this hash is noted at a step
abbrev pub noted_in : (hash step : ℕ) → List ℕ → List ℕ
noted_in hash step steps = slice_set steps (hash % 64) step

-- the same of a hash that may not be known
abbrev pub noted_if : Option ℕ → (step : ℕ) → List ℕ → List ℕ
noted_if (Some hash) step steps = noted_in hash step steps
noted_if None step steps = steps
