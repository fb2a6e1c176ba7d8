use Rattle.std.proofs.Common.{length}
use Rattle.cached_config.proofs.words.before_same.Given as goal

abbrev pub decreases-loop-rest : goal.decreases-loop-rest
decreases-loop-rest l = length l.rest
