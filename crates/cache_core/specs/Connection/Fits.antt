-- What is known of a connection.
use Rattle.std.specs.Prelude.{◌≡◌, ℕ, Bool, false, not, ◌||◌, List, Option, Some, None, ◌⊎◌, IsTrue, is_some, if◌then◌else◌}
use Rattle.audit_model.specs.declared.command.Closing.{Closing}
use Rattle.cache_commands.specs.Loads.Standings.{keeps_line, waits_for_load}
use Rattle.cache_commands.specs.declared.loads.standing.Standing.{Standing}
use Rattle.cache_lines.specs.Whole.{has_line, is_few, is_long_line, is_near}
use Rattle.cache_lines.specs.declared.looping.End.{End}
use Rattle.audit_model.specs.declared.command.Closing.TheVariants as by
use Rattle.cache_lines.specs.declared.looping.End.TheVariants as at
use Rattle.cache_commands.specs.declared.loads.standing.Standing.TheVariants as now

-- The line that is held back or waits is there; an open connection has no longer line, and not too many bytes after a `LOAD` that waits;
-- and that began to wait at most 200 times.
pub record FitsStanding (standing : Standing) (times : ℕ) (closing : Option Closing) (bytes : List ℕ) :
    Type 0 where
  pub whole : IsTrue (not (keeps_line standing) || has_line bytes)
  pub short : IsTrue (is_some closing || keeps_line standing || not (is_long_line bytes))
  pub near : IsTrue (is_some closing || not (waits_for_load standing) || is_near bytes)
  pub few : IsTrue (is_few standing times)

-- it is open, or closed for this
abbrev pub ClosesFor : Closing → Option Closing → Type 0
ClosesFor why closing = (closing ≡ None) ⊎ (closing ≡ Some why)

-- whether it runs lines after its lines ended like this
abbrev pub ended_standing : End → Standing
ended_standing at.More = now.Ready
ended_standing at.TooLong = now.Ready
ended_standing at.Held = now.Held
ended_standing at.Waits = now.Waiting
ended_standing at.Quit = now.Ready

-- how often its first line had begun to wait then
abbrev pub ended_times : End → ℕ
ended_times at.More = 0
ended_times at.TooLong = 0
ended_times at.Held = 0
ended_times at.Waits = 1
ended_times at.Quit = 0

-- why it closes then, with these bytes left, if it does
abbrev pub ended_closing : End → List ℕ → Option Closing
ended_closing at.More bytes = None
ended_closing at.TooLong bytes = Some by.Long
ended_closing at.Held bytes = None
ended_closing at.Waits bytes = if is_near bytes then None else Some by.Behind
ended_closing at.Quit bytes = Some by.Quit

-- if it is open and runs lines, it neither ran a `QUIT` nor waits
abbrev pub RunsOn : Option Closing → Standing → (quit silent : Bool) → Type 0
RunsOn closing standing quit silent =
    closing ≡ None → standing ≡ now.Ready → (quit ≡ false) × (silent ≡ false)
