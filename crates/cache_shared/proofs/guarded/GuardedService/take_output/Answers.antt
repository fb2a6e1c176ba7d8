use Rattle.cache_shared.proofs.Guarding.{replied}
use Rattle.cache_shared.proofs.guarded.GuardedService.take_output.Goals as goal

pub pass-requires : goal.pass-requires
pass-requires g c = record {
  next = replied g.C.Shareable.spaces g.C.Shareable.untaken g.C.Shareable.untold _ _ _
      c.args.self.now.latest c.args.conn _ c.in_ok-text.ensures.all;
}
