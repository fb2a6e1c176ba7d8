use Rattle.std.proofs.Common.{None}
use Rattle.moka_sync.specs.Holding.{DidTell}
use Rattle.moka_sync.specs.Telling.{DoneUnderRange}
use Rattle.moka_sync.proofs.cache.SharedCache.next_between.Given as goal

abbrev pub invariant-loop-number : goal.invariant-loop-number
invariant-loop-number g l = DoneUnderRange {K = g.row.K.Denot} {V = g.row.V.Denot} {P = g.row.R-Predicate.Denot} {S = g.row.S.Denot} {R = g.row.R.Denot} l.first l.number (DidTell None)
