-- What calls on all desks told, one desk after another, each in a hold of its lock.
use Rattle.std.specs.Prelude.{◌≡◌, ◌+◌, ◌-◌, ◌<◌, ◌≤◌, ◌^◌, ◌++◌, ℕ, All, List, Some, fold, length, min, slice_get}
use Rattle.engine_reference.specs.declared.data.Notice.{Notice}
use Rattle.front_reference.specs.Fronts.{Front}
use Rattle.moka_sync.specs.Holding.{DidTell, DoneUnderLock, Guarded}

module _ {K V P S R : Type 0} where
  -- a number of the state was read, and nothing changed
  pub record DidCount (of : Front K V P S R → ℕ) (count : ℕ) (old new : Guarded K V P S R) : Type 0
    where
      pub counted : count ≡ of old.state
      pub same : new ≡ old

  -- a sum of numbers, at most 2^64 - 1, one of each of so many desks, each of which was read in a hold of its lock
  pub record SumsUnderEach (many : ℕ) (of : Front K V P S R → ℕ) (total : ℕ) : Type 0 where
    pub counts : List ℕ
    pub each : length counts ≡ many
    pub read : (number count : ℕ) → slice_get counts number ≡ Some count
        → DoneUnderLock number (DidCount of count)
    pub summed : total ≡ fold (λ so_far count. min (so_far + count) (2 ^ 64 - 1)) 0 counts

  -- this was done to each desk from one number up to another, in a hold of its lock
  abbrev pub DoneUnderRange : (first end : ℕ)
      → (Fact : Guarded K V P S R → Guarded K V P S R → Type 0) → Type 0
  DoneUnderRange first end Fact =
      (number : ℕ) → first ≤ number → number < end → DoneUnderLock number Fact

module _ {K V : Type 0} (P S R : Type 0) where
  -- a notice was the oldest of some desk, and was taken, in a hold of its lock
  abbrev pub WasTold : Notice K V → Type 0
  WasTold notice =
      (number : ℕ) × DoneUnderLock number (DidTell {P = P} {S = S} {R = R} (Some notice))

  -- notices were added to a list, each of which was taken so
  pub record AddsTold (old new : List (Notice K V)) : Type 0 where
    pub added : List (Notice K V)
    pub appended : new ≡ old ++ added
    pub told : All WasTold added
