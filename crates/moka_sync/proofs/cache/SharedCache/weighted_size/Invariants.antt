use Rattle.front_reference.specs.Wholes.{total_weight}
use Rattle.moka_sync.specs.Telling.{SumsUnderEach}
use Rattle.moka_sync.proofs.cache.SharedCache.weighted_size.Given as goal

abbrev pub invariant-loop-number : goal.invariant-loop-number
invariant-loop-number g l = SumsUnderEach {K = g.row.K.Denot} {V = g.row.V.Denot} {P = g.row.R-Predicate.Denot} {S = g.row.S.Denot} {R = g.row.R.Denot} l.number total_weight l.sum
