-- A sketch as its callers see it: a list of counts.
use Rattle.std.specs.Prelude.{ℕ, zero, suc, ◌+◌, ◌*◌, ◌/◌, ◌%◌, ◌^◌, ◌==◌, Bool, ◌||◌, nat_lt, min, if◌then◌else◌, List, [], ◌∷◌, ◌++◌, map, slice_index, slice_set, replicate, max}

pub record Sketch : Type 0 where
  pub words : ℕ
  pub counts : List ℕ
  pub size : ℕ
  pub sample : ℕ

-- the n counts of a word, lowest first
unfoldable pub nibbles : ℕ → ℕ → List ℕ
nibbles zero w = []
nibbles (suc n) w = w % 16 ∷ nibbles n (w / 16)

-- the counts of a table of words
unfoldable pub counts_of : List ℕ → List ℕ
counts_of [] = []
counts_of (w ∷ ws) = nibbles 16 w ++ counts_of ws

abbrev pub half : ℕ → ℕ
half c = c / 2

-- the multiplier of the i-th count of a hash
abbrev pub multiplier : ℕ → ℕ
multiplier i =
    if i == 0 then 0xc3a5c85c97cb3127 else (if i == 1 then 0xb492b66fbe98f273
    else (if i == 2 then 0x9ae16a3b2f90404f else 0xcbf29ce484222325))

-- the spread hash
abbrev pub spread : ℕ → ℕ → ℕ
spread h i = let x = ((h + multiplier i) % 2 ^ 64 * multiplier i) % 2 ^ 64 in (x + x / 2 ^ 32) % 2 ^ 64

-- the place of the i-th count of a hash, in a table of z words
abbrev pub place : ℕ → ℕ → ℕ → ℕ
place z h i = 16 * (spread h i % z) + (4 * (h % 4) + i)

-- one more at a place, up to 15
abbrev pub bump : List ℕ → ℕ → List ℕ
bump counts k =
    if nat_lt (slice_index counts k) 15 then slice_set counts k (slice_index counts k + 1)
    else counts

-- the count of a place
abbrev pub count : Sketch → ℕ → ℕ → ℕ
count s h i = slice_index s.counts (place s.words h i)

-- the smallest of the four counts of a hash, in a table of z words
abbrev pub least_in : ℕ → List ℕ → ℕ → ℕ
least_in z counts h =
    min (min (slice_index counts (place z h 0)) (slice_index counts (place z h 1)))
    (min (slice_index counts (place z h 2)) (slice_index counts (place z h 3)))

-- the same, of a sketch
abbrev pub frequency_of : Sketch → ℕ → ℕ
frequency_of s h =
    if s.words == 0 then 0
    else min (min (count s h 0) (count s h 1)) (min (count s h 2) (count s h 3))

-- one of the four counts of a hash is below 15
abbrev pub can_grow_in : ℕ → List ℕ → ℕ → Bool
can_grow_in z counts h =
    nat_lt (slice_index counts (place z h 0)) 15 || nat_lt (slice_index counts (place z h 1)) 15
    || nat_lt (slice_index counts (place z h 2)) 15
    || nat_lt (slice_index counts (place z h 3)) 15

-- one more in each of the four
abbrev pub bumped_in : ℕ → List ℕ → ℕ → List ℕ
bumped_in z counts h =
    bump (bump (bump (bump counts (place z h 0)) (place z h 1)) (place z h 2)) (place z h 3)

abbrev pub can_grow : Sketch → ℕ → Bool
can_grow s h = can_grow_in s.words s.counts h

abbrev pub bumped : Sketch → ℕ → List ℕ
bumped s h = bumped_in s.words s.counts h

-- every count and the size are halved once the size reaches the sample
abbrev pub aged : Sketch → Sketch
aged s =
    if nat_lt s.size s.sample then s else record s { counts = map half s.counts; size = s.size / 2 }

-- the sketch after one increment
abbrev pub incremented : Sketch → ℕ → Sketch
incremented s h =
    if s.words == 0 then s else (aged (record s {
      counts = bumped s h;
      size = s.size + (if can_grow s h then 1 else 0);
    }))

-- the sketch that a table of words, a size and a sample represent
abbrev pub sketch_of : ℕ → List ℕ → ℕ → ℕ → Sketch
sketch_of words table size sample =
    record { words = words; counts = counts_of table; size = size; sample = sample }

-- a table of this many words, made for this many hashes
abbrev pub fresh : ℕ → ℕ → Sketch
fresh words capacity =
    record {
      words = words;
      counts = replicate (16 * words) 0;
      size = 0;
      sample = max (10 * min capacity (2 ^ 24)) 10;
    }

-- the sketch once there is a table of this many words, or a larger one
abbrev pub grown : Sketch → ℕ → ℕ → Sketch
grown s words capacity = if nat_lt s.words words then fresh words capacity else s

-- the sketch after these increments
abbrev pub after : Sketch → List ℕ → Sketch
after s [] = s
after s (g ∷ rest) = after (incremented s g) rest

-- a hash's own count after one increment, of it or of another hash
abbrev pub own_step : Sketch → ℕ → ℕ → ℕ → ℕ
own_step s hash own g =
    let more = if g == hash then min (own + 1) 15 else own in
    if nat_lt (s.size + (if can_grow s g then 1 else 0)) s.sample then more else more / 2

-- a hash's own count after these increments
abbrev pub own_count : Sketch → ℕ → ℕ → List ℕ → ℕ
own_count s hash own [] = own
own_count s hash own (g ∷ rest) = own_count (incremented s g) hash (own_step s hash own g) rest
