use Rattle.std.proofs.Common.{◌≡◌, length}
use Rattle.cached_config.specs.Good.{are_all_apart}
use Rattle.cached_config.proofs.good.are_distinct.Given as goal

abbrev pub invariant-loop-rest : goal.invariant-loop-rest
invariant-loop-rest l = are_all_apart l.rest ≡ are_all_apart l.spaces

abbrev pub decreases-loop-rest : goal.decreases-loop-rest
decreases-loop-rest l = length l.rest
