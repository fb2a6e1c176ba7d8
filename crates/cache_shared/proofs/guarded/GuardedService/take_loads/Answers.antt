use Rattle.cache_shared.proofs.Guarding.{loaded}
use Rattle.cache_shared.proofs.guarded.GuardedService.take_loads.Goals as goal

pub pass-requires : goal.pass-requires
pass-requires g c = record {
  next = loaded g.C.Shareable.spaces g.C.Shareable.untaken g.C.Shareable.untold _ _ _
      c.args.self.now.latest c.args.namespace _ c.in_ok-loads.ensures.all;
}
