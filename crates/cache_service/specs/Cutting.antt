-- Pieces that are passed on at once.
use Rattle.std.specs.Prelude.{ℕ, Bool, List, ◌≡◌, ◌≢◌, ◌⊎◌, ◌+◌, ◌-◌, ◌<◌, ◌≤◌, ◌==◌, ◌||◌, true, drop, take, count_by, length, slice_index, nat_eq, codes}
use Rattle.std.specs.List.{starts_with}

-- whether it is a KEYS, SYNC, CLEAR or DROPIF, which may go over all values
abbrev pub may_take_long : List ℕ → Bool
may_take_long line = begins (codes "KEYS") || begins (codes "SYNC") || begins (codes "CLEAR") || begins (codes "DROPIF")
  where
    begins : List ℕ → Bool
    begins = starts_with nat_eq line

module _ (piece : List ℕ) where
  -- a line of the piece: from a place to that of its line end
  pub record IsLineOfPiece (start end : ℕ) : Type 0 where
    pub begins : (start ≡ 0) ⊎ (slice_index piece (start - 1) ≡ 10)
    pub within : (start ≤ end) × (end < length piece)
    pub ends : slice_index piece end ≡ 10
    pub one : (k : ℕ) → start ≤ k → k < end → slice_index piece k ≢ 10

  -- only its last line may take long
  abbrev pub IsQuickToItsEnd : Type 0
  IsQuickToItsEnd = (start end : ℕ) → IsLineOfPiece start end
      → may_take_long (drop start (take end piece)) ≡ true → end + 1 ≡ length piece

  -- at most 64 lines, of which only the last may take long
  pub record IsShortPiece : Type 0 where
    pub few : count_by (λ byte. byte == 10) piece ≤ 64
    pub quick : IsQuickToItsEnd
