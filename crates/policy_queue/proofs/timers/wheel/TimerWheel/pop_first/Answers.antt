use Rattle.std.proofs.Common.{refl, arith}
use Rattle.policy_queue.specs.Timers.Places.{taken}
use Rattle.policy_queue.proofs.timers.Wheels.{below_left, one_fewer}
use Rattle.policy_queue.proofs.timers.wheel.TimerWheel.pop_first.Goals as goal

pub invariant_of-self : goal.invariant_of-self
invariant_of-self g c = record {
  arranged = c.take-timer.ensures.arranged;
  below = below_left c.self.inside.next_serial 0 (taken c.self.inside.row.places) (taken c.take-timer.new.row.places) c.take-timer.result c.take-timer.ensures.goes c.self.invariant.below;
}

pub returns-clause-keeps : goal.returns-clause-keeps
returns-clause-keeps g c =
    let before = c.self.invariant.arranged.counted in
    let after = c.take-timer.ensures.arranged.counted in
    let fewer = one_fewer 0 (taken c.self.inside.row.places) (taken c.take-timer.new.row.places) c.take-timer.result c.take-timer.ensures.goes in
    let kept = c.take-timer.ensures.capacity.0 in
    let slots = c.take-timer.ensures.slots.0 in
    rw (← c.self.view_is) (record { is_enabled = refl; origin = refl; moment = refl; next_serial = refl; room = omega arith })
