use Rattle.cache_shared.proofs.Guarding.{took}
use Rattle.std.proofs.Common.{subst}
use Rattle.cache_history.specs.Histories.{ClaimsOne}
use Rattle.cache_shared.specs.Histories.{IsHold, Starts}
use Rattle.cache_shared.specs.Intakes.{input_in}
use Rattle.cache_shared.proofs.guarded.GuardedService.step.Goals as goal

pub claim-requires : goal.claim-requires
claim-requires g c = record {
  next = took g.C.Shareable.spaces g.C.Shareable.untaken g.C.Shareable.untold _ _ _
      c.args.self.now.latest (input_in c.args.intake) c.in_ok-output.output
      c.in_ok-output.ensures.taken;
}

pub returns-clause-taken : goal.returns-clause-taken
returns-clause-taken g c = record {
  old = c.args.self.now.booked.core;
  new = c.step.new.self.core;
  events = _;
  reached = c.args.self.now.booked.stands.reached;
  fact = c.in_ok-output.ensures.taken;
  claims = subst (λ own. ClaimsOne (Starts g.C.Shareable.spaces)
      (IsHold g.C.Shareable.spaces g.C.Shareable.untaken g.C.Shareable.untold) own
      c.claim.new.claims c.args.self.now.booked.core c.step.new.self.core)
      c.step.ensures.events.1 (c.claim.ensures.claimed _ c.args.self.now.latest);
}
