use Rattle.std.proofs.Common.{rules}
use Rattle.policy_queue.specs.Timers.Places.{taken}
use Rattle.policy_queue.proofs.timers.Wheels.{all_later, all_behind}
use Rattle.policy_queue.proofs.timers.Comings.{first_is}
use Rattle.policy_queue.proofs.timers.wheel.TimerWheel.first_due.Goals as goal

pub returns-else-as_nanos-clause-first : goal.returns-else-as_nanos-clause-first
returns-else-as_nanos-clause-first g c = rw (← c.self.view_is) (all_later (taken c.self.inside.row.places) c.self.inside.slots c.args.now c.in-Some.first c.self.invariant.arranged c.in-Some.ensures.1 (search rules))

pub returns-then-as_nanos-clause-earliest : goal.returns-then-as_nanos-clause-earliest
returns-then-as_nanos-clause-earliest g c = rw (← c.self.view_is) (all_behind (taken c.self.inside.row.places) c.self.inside.slots c.in-Some.first c.self.invariant.arranged c.in-Some.ensures.1)

pub returns-then-as_nanos-clause-first : goal.returns-then-as_nanos-clause-first
returns-then-as_nanos-clause-first g c =
    let f = first_is c.self.inside.row.places c.in-Some.first c.in-Some.ensures.0 in
    rw (← c.self.view_is) (f.1, f.2, search rules)
