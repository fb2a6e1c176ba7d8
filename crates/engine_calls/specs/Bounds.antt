-- Bounds of the records of a cache.
use Rattle.std.specs.Prelude.{◌≡◌, ℕ, ◌-◌, ◌<◌, ◌≤◌, ◌^◌, Some}
use Rattle.engine_reference.specs.declared.data.Record.{Record}
use Rattle.engine_reference.specs.Records.{record_at}
use Rattle.engine_reference.specs.State.{State}

-- a record had no more writes than there were tickets, and its last was at a moment
pub record IsBounded {K V : Type 0} (tickets : ℕ) (r : Record K V) : Type 0 where
  pub writes : r.writes ≤ tickets
  pub written : r.entry.written < 2 ^ 64 - 1

abbrev pub AreBounded : {K V P S R : Type 0} → State K V P S R → Type 0
AreBounded {K} {V} s =
    (number : ℕ) (r : Record K V) → record_at s.records number ≡ Some r → IsBounded s.next_ticket r
