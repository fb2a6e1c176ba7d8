-- What a contract sees of expirations by place: when each expires, and whether all that were set are among them.
use Rattle.std.specs.Prelude.{◌≡◌, ℕ, ◌<◌, ◌≤◌, Bool, true, List, Option, Some, None, slice_index_or}

pub record Awaited : Type 0 where
  pub timers : List ℕ
  pub is_whole : Bool

-- what a place has that does not expire: no moment is so late
abbrev pub never : ℕ
never = 18446744073709551615

-- when a place expires
abbrev pub expiry_at : List ℕ → ℕ → ℕ
expiry_at timers place = slice_index_or timers place never

-- the place expires, no later than at this time
unfoldable pub IsTimed : List ℕ → ℕ → ℕ → Type 0
IsTimed timers place time = (expiry_at timers place < never) × (expiry_at timers place ≤ time)

abbrev pub IsAwaited : Awaited → ℕ → ℕ → Type 0
IsAwaited a place time = IsTimed a.timers place time

-- if all that were set are among the timers, the place's time is, if it has one
abbrev pub IsSet : Awaited → ℕ → Option ℕ → Type 0
IsSet a place None = Unit {0}
IsSet a place (Some time) = a.is_whole ≡ true → IsAwaited a place time

-- what other places await is still awaited
pub record KeepsOthers (place : ℕ) (old new : List ℕ) : Type 0 where
  pub others : (other time : ℕ) → (other ≡ place → ⊥) → IsTimed old other time
      → IsTimed new other time
