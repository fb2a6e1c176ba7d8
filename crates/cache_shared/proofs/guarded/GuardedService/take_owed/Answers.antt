use Rattle.cache_shared.proofs.Guarding.{gave}
use Rattle.cache_shared.proofs.guarded.GuardedService.take_owed.Goals as goal

pub claim-requires : goal.claim-requires
claim-requires g c = record {
  next = gave g.C.Shareable.spaces g.C.Shareable.untaken g.C.Shareable.untold _ _ _
      c.args.self.now.latest c.args.conn c.args.wants_loads c.take_owed-owed.result _ _
      c.take_owed-owed.ensures.all;
}

pub returns-clause-all : goal.returns-clause-all
returns-clause-all g c = record {
  old = c.args.self.now.booked.core;
  new = c.take_owed-owed.new.self.core;
  events = _;
  reached = c.args.self.now.booked.stands.reached;
  fact = c.take_owed-owed.ensures.all;
  claims = c.claim.ensures.claimed _ c.args.self.now.latest;
}
