-- Calls of a device that failed, counted up to 2^64 - 1.
use Rattle.std.specs.Prelude.{ℕ, ◌+◌, ◌-◌, ◌<◌, ◌^◌, min, Bool, true, not, ◌&&◌, ◌==◌, List, length, Result, Ok, Err, if◌then◌else◌}

-- the count after a call
abbrev pub failures_after : Bool → ℕ → ℕ
failures_after failed before = if failed then min (before + 1) (2 ^ 64 - 1) else before

-- the device failed in between, unless the count was full
abbrev pub HasFailed : ℕ → ℕ → Type 0
HasFailed before after = before < 2 ^ 64 - 1 → before < after

-- a write failed, or accepted nothing of a piece that is not empty
abbrev pub took_none : {E : Type 0} → List ℕ → Result ℕ E → Bool
took_none piece (Ok n) = n == 0 && not (length piece == 0)
took_none piece (Err e) = true
