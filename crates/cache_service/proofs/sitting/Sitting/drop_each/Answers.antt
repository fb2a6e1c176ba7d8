use Rattle.std.proofs.Common.{[], refl, arith}
use Rattle.cache_service.proofs.Seated.{drops-each, drops-none}
use Rattle.cache_service.proofs.sitting.Sitting.drop_each.Goals as goal

pub loop-place-init : goal.loop-place-init
loop-place-init g c = ([], drops-none c.args.conn _ _, refl)

pub loop-place-preserved : goal.loop-place-preserved
loop-place-preserved g c = drops-each g.D.Loader.loads c.args.conn _ _ _ _ _ _ _ _ c.index-loads-loads.result c.as_slice.result.now (omega (arith, c.loop-place-test.true)) c.index-loads-loads.is c.as_slice.ensures c.loop-place.invariant c.drop_load.ensures
