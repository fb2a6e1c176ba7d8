use Rattle.std.proofs.Common.{◌+◌, ◌-◌, ◌*◌}
use Rattle.engine_pending.proofs.timers.Showing.{IsAhead}
use Rattle.engine_pending.proofs.timers.firsts.below_with.Given as goal

abbrev pub invariant-loop-k : goal.invariant-loop-k
invariant-loop-k l = IsAhead l.expiries l.firsts l.place l.moment l.k

abbrev pub decreases-loop-k : goal.decreases-loop-k
decreases-loop-k l = 8 * l.place + 8 - l.k
