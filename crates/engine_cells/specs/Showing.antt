-- Which records show a value, and how many do.
use Rattle.std.specs.Prelude.{ℕ, Bool, not, ◌&&◌, if◌then◌else◌, Option, Some, None}
use Rattle.engine_pending.specs.Pending.{Pending, stands_over}
use Rattle.engine_reference.specs.declared.data.Record.{Record}
use Rattle.engine_reference.specs.Times.{has_come}

module _ {K V O W P S R : Type 0} (covers : R → P → K → V → Bool) (p : Pending K V O W P S R) (now : ℕ) where
  -- a record is held, its deadline is after the moment, and nothing covers its entry
  abbrev pub shows_value : Record K V → Bool
  shows_value r =
      r.is_held && (not (has_come p.settings now r.entry) && not (stands_over covers p r.entry.step r.entry.key r.entry.value))

  -- what it counts for among those that do
  abbrev pub shown_part : Record K V → ℕ
  shown_part r = if shows_value r then 1 else 0

  abbrev pub shown_in : Option (Record K V) → ℕ
  shown_in None = 0
  shown_in (Some c) = shown_part c
