use Rattle.std.proofs.Common.{sym, subst}
use Rattle.cache_service.specs.Served.{AreOut}
use Rattle.cache_service.proofs.Seated.{drops-then}
use Rattle.cache_service.proofs.sitting.SittingHost.drop_loads.Goals as goal

pub loop-turn-preserved : goal.loop-turn-preserved
loop-turn-preserved g c =
    drops-then g.D.Loader.loads c.args.conn _ c.as_slice.result.now _ _ _ _ _ _ _ c.take_owed-owed.ensures.seat (subst (AreOut g.L.Seating.configs g.C.Shareable.spaces c.args.conn.namespace) (sym c.as_slice.ensures.value) (rw c.in-Some.is at c.take_owed-owed.ensures.given.out)) c.loop-turn.invariant c.drop_each-in-Some.ensures
