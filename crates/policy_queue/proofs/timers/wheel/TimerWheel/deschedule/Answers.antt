use Rattle.std.proofs.Common.{refl, arith}
use Rattle.policy_queue.specs.Timers.Places.{taken}
use Rattle.policy_queue.proofs.timers.Wheels.{below_left, one_fewer, permutes_left}
use Rattle.policy_queue.proofs.timers.Comings.{named_id}
use Rattle.policy_queue.proofs.timers.wheel.TimerWheel.deschedule.Goals as goal

pub invariant_of-self : goal.invariant_of-self
invariant_of-self g c = record {
  arranged = c.take-timer.ensures.arranged;
  below = below_left c.self.inside.next_serial c.in-Some.k (taken c.self.inside.row.places) (taken c.take-timer.new.row.places) c.take-timer.result c.take-timer.ensures.goes c.self.invariant.below;
}

pub returns-in-Some-clause-leaves : goal.returns-in-Some-clause-leaves
returns-in-Some-clause-leaves g c =
    let t = c.take-timer.result in
    rw (← c.self.view_is) (record {
      timer = t;
      named = named_id c.self.inside.row.places c.args.id c.in-Some.k t c.in-Some.ensures c.take-timer.ensures.timer;
      recorded = refl;
      timers = permutes_left c.in-Some.k (taken c.self.inside.row.places) (taken c.take-timer.new.row.places) t c.take-timer.ensures.goes;
    })

pub returns-in-Some-clause-keeps : goal.returns-in-Some-clause-keeps
returns-in-Some-clause-keeps g c =
    let before = c.self.invariant.arranged.counted in
    let after = c.take-timer.ensures.arranged.counted in
    let fewer = one_fewer c.in-Some.k (taken c.self.inside.row.places) (taken c.take-timer.new.row.places) c.take-timer.result c.take-timer.ensures.goes in
    let kept = c.take-timer.ensures.capacity.0 in
    let slots = c.take-timer.ensures.slots.0 in
    rw (← c.self.view_is) (record { is_enabled = refl; origin = refl; moment = refl; next_serial = refl; room = omega arith })
