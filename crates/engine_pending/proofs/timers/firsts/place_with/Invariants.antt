use Rattle.std.proofs.Common.{◌≡◌, ◌+◌, ◌-◌, length}
use Rattle.engine_pending.specs.Timers.Firsts.{first_at}
use Rattle.engine_pending.proofs.timers.firsts.place_with.Given as goal

abbrev pub invariant-loop-at : goal.invariant-loop-at
invariant-loop-at l = first_at l.expiries l.firsts l.at ≡ l.moment

-- each turn goes further on
abbrev pub decreases-loop-at : goal.decreases-loop-at
decreases-loop-at l = length l.expiries + length l.firsts - l.at
