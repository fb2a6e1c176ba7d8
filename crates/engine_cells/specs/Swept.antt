-- Records and clears.
use Rattle.std.specs.Prelude.{◌≡◌, ℕ, ◌≤◌, true, List, Option, Some}
use Rattle.engine_reference.specs.declared.data.Record.{Record}
use Rattle.engine_reference.specs.Records.{record_at}
use Rattle.engine_reference.specs.State.{State}
use Rattle.engine_cells.specs.Cells.{cell_at}

-- each held record is of this step or a later one
abbrev pub AreSince : {K V : Type 0} → ℕ → List (Option (Record K V)) → Type 0
AreSince {K} {V} step cells =
    (i : ℕ) (c : Record K V) → cell_at cells i ≡ Some c → c.is_held ≡ true → step ≤ c.entry.step

-- no held record is of a step before the last clear
abbrev pub NoneIsCleared : {K V P S R : Type 0} → State K V P S R → Type 0
NoneIsCleared {K} {V} s =
    (r : Record K V) → record_at s.records r.number ≡ Some r → r.is_held ≡ true
    → s.cleared ≤ r.entry.step
