use Rattle.cache_shared.proofs.Guarding.{turned}
use Rattle.cache_shared.proofs.Stepping.{moves-none}
use Rattle.std.proofs.Common.{subst}
use Rattle.cache_history.specs.Histories.{ClaimsOne}
use Rattle.cache_shared.specs.Histories.{IsHold, Starts}
use Rattle.cache_shared.specs.Intakes.{input_in}
use Rattle.cache_shared.proofs.guarded.GuardedService.turn.Goals as goal

pub returns-in_err-output-clause-moved : goal.returns-in_err-output-clause-moved
returns-in_err-output-clause-moved g c = record {
  core = c.args.self.now.booked.core;
  events = _;
  reached = c.args.self.now.booked.stands.reached;
  left = _;
  moved = moves-none _ _;
}

pub claim-requires : goal.claim-requires
claim-requires g c = record {
  next = turned g.C.Shareable.spaces g.C.Shareable.untaken g.C.Shareable.untold _ _ _
      c.args.self.now.latest c.args.conn (input_in c.args.intake) c.args.wants_loads
      (record { output = c.in_ok-output.output; owed = c.take_owed-owed.result }) _ _ (record {
        between = c.step.new.self.core;
        taken = c.in_ok-output.ensures.taken;
        moved = c.take_owed-owed.ensures.all;
      });
}

pub returns-clause-taken : goal.returns-clause-taken
returns-clause-taken g c = record {
  old = c.args.self.now.booked.core;
  new = c.take_owed-owed.new.self.core;
  events = _;
  reached = c.args.self.now.booked.stands.reached;
  fact = record {
    between = c.step.new.self.core;
    taken = c.in_ok-output.ensures.taken;
    moved = c.take_owed-owed.ensures.all;
  };
  claims = subst (λ own. ClaimsOne (Starts g.C.Shareable.spaces)
      (IsHold g.C.Shareable.spaces g.C.Shareable.untaken g.C.Shareable.untold) own
      c.claim.new.claims c.args.self.now.booked.core c.take_owed-owed.new.self.core)
      c.step.ensures.events.1 (c.claim.ensures.claimed _ c.args.self.now.latest);
}
