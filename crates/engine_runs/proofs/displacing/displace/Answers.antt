use Rattle.engine_runs.proofs.Displaced.{way-start, way-more}
use Rattle.engine_runs.proofs.displacing.displace.Goals as goal

pub loop-place-init : goal.loop-place-init
loop-place-init g c = way-start c.args.tables.now c.args.weight c.requires

pub loop-place-preserved : goal.loop-place-preserved
loop-place-preserved g c = way-more c.args.tables.now _ _ c.args.weight _ _ c.loop-place.invariant c.displace_one-left.ensures.way
