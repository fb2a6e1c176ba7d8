use Rattle.engine_pending.proofs.timers.Showing.{IsFirstSoFar}
use Rattle.engine_pending.proofs.timers.firsts.first_of.Given as goal

abbrev pub invariant-loop-k : goal.invariant-loop-k
invariant-loop-k l = IsFirstSoFar l.expiries l.firsts l.place l.k l.first
