-- The block in which a value stands.
use Rattle.std.specs.Prelude.{ℕ, ◌-◌, ◌==◌, List, length, take, drop, slice_index, Option, Some, None, if◌then◌else◌}
use Rattle.std.specs.Int.{from_le_bytes, w64}
use Rattle.cache_front.specs.Parts.{Stored}

-- how many bytes stand behind the value's own, as the last of them says: 1, or 9 with a time of eight
abbrev pub tail_of : List ℕ → ℕ
tail_of block = slice_index block (length block - 1)

abbrev pub own_bytes : List ℕ → List ℕ
own_bytes block = take (length block - tail_of block) block

abbrev pub time_in_block : List ℕ → Option ℕ
time_in_block block = if tail_of block == 9 then Some (from_le_bytes w64 (take 8 (drop (length block - 9) block))) else None

-- the value that stands in a block
abbrev pub stored_in : List ℕ → Stored
stored_in block = record { bytes = own_bytes block; milliseconds = time_in_block block }
