use Rattle.moka_sync.specs.Holding.{DidClear, DoneUnderEach}
use Rattle.moka_sync.proofs.cache.SharedCache.invalidate_all.Given as goal

abbrev pub invariant-loop-number : goal.invariant-loop-number
invariant-loop-number g l = DoneUnderEach {K = g.row.K.Denot} {V = g.row.V.Denot} {P = g.row.R-Predicate.Denot} {S = g.row.S.Denot} {R = g.row.R.Denot} l.number DidClear
