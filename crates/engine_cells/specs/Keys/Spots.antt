-- Places under hashes.
use Rattle.std.specs.Prelude.{◌≡◌, ℕ, ◌+◌, ◌*◌, ◌/◌, ◌%◌, ◌^◌, ◌≤◌, ◌⊎◌, List, [], ◌∷◌}

-- a hash's tag: the upper half of its product with an odd number
unfoldable pub tag_of : ℕ → ℕ
tag_of hash = hash * 0x9E37_79B9_7F4A_7C15 % 2 ^ 64 / 2 ^ 32

-- what callers see: each place with its tag, and how many more places need no allocation
pub record Spots : Type 0 where
  pub entries : List (ℕ × ℕ)
  pub space : ℕ

-- one of the entries has this tag and this place
abbrev pub HasEntry : List (ℕ × ℕ) → ℕ → ℕ → Type 0
HasEntry [] tag place = ⊥
HasEntry (entry ∷ rest) tag place = ((entry.0 ≡ tag) × (entry.1 ≡ place)) ⊎ HasEntry rest tag place

-- a place is under a hash: under its tag
abbrev pub IsUnder : Spots → ℕ → ℕ → Type 0
IsUnder spots hash place = HasEntry spots.entries (tag_of hash) place

-- each place is where it was and no other is, and there may be more room
pub record OnlyGainsSpace (old new : Spots) : Type 0 where
  pub others : (h p : ℕ) → IsUnder old h p → IsUnder new h p
  pub only : (h p : ℕ) → IsUnder new h p → IsUnder old h p
  pub space : old.space ≤ new.space

-- a place was added under a hash, and all others are where they were
pub record ComesUnder (old new : Spots) (hash place : ℕ) : Type 0 where
  pub there : IsUnder new hash place
  pub others : (h p : ℕ) → IsUnder old h p → IsUnder new h p
  pub only : (h p : ℕ) → IsUnder new h p → IsUnder old h p
      ⊎ ((tag_of h ≡ tag_of hash) × (p ≡ place))
  pub space : old.space ≤ new.space + 1

-- a place was removed from under a hash, and all others are where they were
pub record LeavesFrom (old new : Spots) (hash place : ℕ) : Type 0 where
  pub gone : IsUnder new hash place → ⊥
  pub others : (h p : ℕ) → IsUnder old h p → (tag_of h ≡ tag_of hash → p ≡ place → ⊥)
      → IsUnder new h p
  pub only : (h p : ℕ) → IsUnder new h p → IsUnder old h p
  pub space : old.space ≤ new.space
