use Rattle.std.proofs.Common.{◌≡◌, true}
use Rattle.policy_queue.specs.Timers.Events.{pending}
use Rattle.policy_tests.proofs.uses.timers.expire_until.Given as goal

abbrev pub invariant-loop-event : goal.invariant-loop-event
invariant-loop-event g l = record {
  enabled : l.wheel.is_enabled ≡ true;
  origin : l.wheel.origin ≡ l.fn.wheel.origin;
  moment : l.wheel.moment ≡ l.fn.wheel.moment;
}

abbrev pub decreases-loop-event : goal.decreases-loop-event
decreases-loop-event g l = pending l.now l.wheel.timers
