use Rattle.std.proofs.Common.{◌≡◌, ◌+◌, ◌≤◌, drop}
use Rattle.engine_cells.specs.Showing.{shown_part}
use Rattle.engine_cells.specs.Tallying.{sum_over}
use Rattle.engine_cells.proofs.showing.count_shown.Given as goal

abbrev pub invariant-loop-place : goal.invariant-loop-place
invariant-loop-place g l =
    (l.number + sum_over (shown_part g.R.Rules.answers.covers l.backlog l.now) (drop l.place l.cells.slots) ≡ sum_over (shown_part g.R.Rules.answers.covers l.backlog l.now) l.cells.slots) ×
    (l.number ≤ l.place)
