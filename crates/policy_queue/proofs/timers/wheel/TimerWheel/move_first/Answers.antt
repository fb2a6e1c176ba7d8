use Rattle.std.proofs.Common.{◌++◌, refl, arith}
use Rattle.policy_queue.specs.Timers.Places.{taken}
use Rattle.policy_queue.proofs.timers.Wheels.{below_moved, as_many, first_moved, permutes_to}
use Rattle.policy_queue.proofs.timers.wheel.TimerWheel.move_first.Goals as goal

pub invariant_of-self : goal.invariant_of-self
invariant_of-self g c =
    let m = c.move_timer.ensures.moves in
    let due = c.args.due in
    record {
      arranged = c.move_timer.ensures.arranged;
      below = below_moved c.self.inside.next_serial 0 due.time due.expiry_gen (taken c.self.inside.row.places) (taken c.move_timer.new.row.places) m.0 m.2 c.self.invariant.below;
    }

pub returns-clause-first : goal.returns-clause-first
returns-clause-first g c =
    let m = c.move_timer.ensures.moves in
    let due = c.args.due in
    let ts = taken c.self.inside.row.places in
    let new = taken c.move_timer.new.row.places in
    rw (← c.self.view_is) (m.0, m.2.before ++ m.2.after, first_moved due.time due.expiry_gen ts new m.0 m.2, permutes_to 0 due.time due.expiry_gen ts new m.0 m.2)

pub returns-clause-keeps : goal.returns-clause-keeps
returns-clause-keeps g c =
    let m = c.move_timer.ensures.moves in
    let due = c.args.due in
    let before = c.self.invariant.arranged.counted in
    let after = c.move_timer.ensures.arranged.counted in
    let same = as_many 0 due.time due.expiry_gen (taken c.self.inside.row.places) (taken c.move_timer.new.row.places) m.0 m.2 in
    let kept = c.move_timer.ensures.capacity in
    let slots = c.move_timer.ensures.slots in
    rw (← c.self.view_is) (record { is_enabled = refl; origin = refl; moment = refl; next_serial = refl; room = omega arith })
