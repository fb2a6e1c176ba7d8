use Rattle.moka_sync.specs.Holding.{DidRun, DoneUnderEach}
use Rattle.moka_sync.proofs.cache.SharedCache.run_pending_tasks.Given as goal

abbrev pub invariant-loop-number : goal.invariant-loop-number
invariant-loop-number g l = DoneUnderEach {S = g.row.S.Denot} l.number (DidRun g.R.Rules.answers)
