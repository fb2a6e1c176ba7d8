use Rattle.cache_shared.proofs.Guarding.{noted}
use Rattle.cache_shared.proofs.guarded.GuardedService.take_notices.Goals as goal

pub pass-requires : goal.pass-requires
pass-requires g c = record {
  next = noted g.C.Shareable.spaces g.C.Shareable.untaken g.C.Shareable.untold _ _ _
      c.args.self.now.latest c.args.namespace _ _ _ c.take_notices-taken.ensures.all;
}
