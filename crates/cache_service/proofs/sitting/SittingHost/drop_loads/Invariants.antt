use Rattle.cache_service.specs.Sitting.{DropsBy}
use Rattle.cache_service.proofs.sitting.SittingHost.drop_loads.Given as goal

abbrev pub invariant-loop-turn : goal.invariant-loop-turn
invariant-loop-turn g l = DropsBy g.L.Seating.configs g.C.Shareable.spaces g.C.Shareable.untaken g.C.Shareable.KEEPS g.D.Loader.loads l.fn.conn l.fn.hand l.fn.place l.place l.fn.loader l.loader
