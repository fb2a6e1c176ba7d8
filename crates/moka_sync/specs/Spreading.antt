-- How keys are spread over the desks of a cache.
use Rattle.std.specs.Prelude.{◌≡◌, ℕ, ◌^◌, Option, Some, None}
use Rattle.front_reference.specs.Fronts.{part_of}
use Rattle.moka_sync.specs.declared.spreading.Spread.{Spread}

module _ {S : Type 0} where
  -- how many desks there are
  abbrev pub desk_count : Option (Spread S) → ℕ
  desk_count None = 1
  desk_count (Some spread) = 2 ^ spread.bits

  -- the number of the desk of a key, whose hash a hasher gives like this
  abbrev pub desk_number : {K : Type 0} → (hash : S → K → ℕ) → Option (Spread S) → K → ℕ
  desk_number hash None key = 0
  desk_number hash (Some spread) key = part_of spread.bits (hash spread.hasher key)

  -- keys that are spread are so by this hasher
  abbrev pub SpreadsBy : S → Option (Spread S) → Type 0
  SpreadsBy hasher None = Unit {0}
  SpreadsBy hasher (Some spread) = spread.hasher ≡ hasher
