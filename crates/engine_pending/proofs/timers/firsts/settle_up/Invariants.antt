use Rattle.std.proofs.Common.{◌<◌, length}
use Rattle.engine_pending.specs.Timers.Firsts.{ShowFirstsBut}
use Rattle.engine_pending.proofs.timers.firsts.settle_up.Given as goal

abbrev pub invariant-up : goal.invariant-up
invariant-up l = record { within : l.at < length l.firsts; others : ShowFirstsBut l.expiries l.firsts l.at }

abbrev pub decreases-up : goal.decreases-up
decreases-up l = l.at
