use Rattle.cache_shared.proofs.Guarding.{told}
use Rattle.cache_shared.proofs.guarded.GuardedService.next_notice.Goals as goal

pub pass-requires : goal.pass-requires
pass-requires g c = record {
  next = told g.C.Shareable.spaces g.C.Shareable.untaken g.C.Shareable.untold _ _ _
      c.args.self.now.latest c.args.namespace _ c.in_ok-note.ensures.note;
}
