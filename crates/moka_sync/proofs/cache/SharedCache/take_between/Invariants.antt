use Rattle.moka_sync.specs.Telling.{AddsTold}
use Rattle.moka_sync.proofs.cache.SharedCache.take_between.Given as goal

abbrev pub invariant-loop-number : goal.invariant-loop-number
invariant-loop-number g l = AddsTold g.row.R-Predicate.Denot g.row.S.Denot g.row.R.Denot l.fn.notices.items l.notices.items
