use Rattle.cache_service.specs.Sitting.{DropsBy}
use Rattle.cache_service.proofs.sitting.Sitting.drop_each.Given as goal

abbrev pub invariant-loop-place : goal.invariant-loop-place
invariant-loop-place g l = DropsBy g.L.Seating.configs g.C.Shareable.spaces g.C.Shareable.untaken g.C.Shareable.KEEPS g.D.Loader.loads l.fn.conn l.fn.loads l.fn.seat l.seat l.fn.loader l.loader
