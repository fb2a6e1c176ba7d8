use Rattle.std.proofs.Common.{◌-◌, ◌≤◌, length}
use Rattle.cache_loop.proofs.counts.ThoroughRead.read.Given as goal

abbrev pub invariant-loop-self : goal.invariant-loop-self
invariant-loop-self g l = l.count ≤ length l.buf

abbrev pub decreases-loop-self : goal.decreases-loop-self
decreases-loop-self g l = length l.buf - l.count
