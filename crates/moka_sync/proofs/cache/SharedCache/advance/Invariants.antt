use Rattle.std.proofs.Common.{◌-◌}
use Rattle.moka_sync.proofs.cache.SharedCache.advance.Given as goal

abbrev pub decreases-loop-place : goal.decreases-loop-place
decreases-loop-place g l = l.count - l.place
