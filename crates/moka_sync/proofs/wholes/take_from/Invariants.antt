use Rattle.std.proofs.Common.{◌-◌}
use Rattle.std.specs.Prelude.{vec_capacity, vec_len}
use Rattle.moka_sync.specs.Telling.{AddsTold}
use Rattle.moka_sync.proofs.wholes.take_from.Given as goal

abbrev pub decreases-loop-desk : goal.decreases-loop-desk
decreases-loop-desk g l = vec_capacity l.notices - vec_len l.notices

abbrev pub invariant-loop-desk : goal.invariant-loop-desk
invariant-loop-desk g l = AddsTold g.row.R-Predicate.Denot g.row.S.Denot g.row.R.Denot l.fn.notices.items l.notices.items
