-- Own expirations and the timers of their places.
use Rattle.std.specs.Prelude.{◌≡◌, ℕ, true, List, Option, Some}
use Rattle.engine_pending.specs.Timers.Awaited.{Awaited, IsSet}
use Rattle.engine_reference.specs.declared.data.Record.{Record}
use Rattle.engine_cells.specs.Cells.{cell_at}

-- each held record that expires by itself has a timer no later, if there was memory for all
abbrev pub AreAwaited : {K V : Type 0} → List (Option (Record K V)) → Awaited → Type 0
AreAwaited {K} {V} cells a =
    (i : ℕ) (c : Record K V) → cell_at cells i ≡ Some c → c.is_held ≡ true
    → IsSet a i c.entry.expires
