use Rattle.std.proofs.Common.{length}
use Rattle.moka_sync.proofs.cache.SharedCache.take_last.Given as goal

abbrev pub decreases-loop-keys : goal.decreases-loop-keys
decreases-loop-keys g l = length l.keys.items
