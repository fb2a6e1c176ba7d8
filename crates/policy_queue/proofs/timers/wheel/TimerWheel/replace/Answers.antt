use Rattle.std.proofs.Common.{◌++◌, refl, arith}
use Rattle.policy_queue.specs.Timers.Places.{taken}
use Rattle.policy_queue.proofs.timers.Wheels.{below_moved, as_many, permutes_from, permutes_to}
use Rattle.policy_queue.proofs.timers.Comings.{named_id}
use Rattle.policy_queue.proofs.timers.wheel.TimerWheel.replace.Goals as goal

pub invariant_of-self : goal.invariant_of-self
invariant_of-self g c =
    let m = c.move_timer.ensures.moves in
    let due = c.args.due in
    record {
      arranged = c.move_timer.ensures.arranged;
      below = below_moved c.self.inside.next_serial c.in-Some.k due.time due.expiry_gen (taken c.self.inside.row.places) (taken c.move_timer.new.row.places) m.0 m.2 c.self.invariant.below;
    }

pub returns-in-Some-clause-replaces : goal.returns-in-Some-clause-replaces
returns-in-Some-clause-replaces g c =
    let ps = c.self.inside.row.places in
    let k = c.in-Some.k in
    let m = c.move_timer.ensures.moves in
    let due = c.args.due in
    let new = taken c.move_timer.new.row.places in
    rw (← c.self.view_is) (record {
      timer = m.0;
      named = named_id ps c.args.id k m.0 c.in-Some.ensures m.1;
      others = m.2.before ++ m.2.after;
      before = permutes_from k due.time due.expiry_gen (taken ps) new m.0 m.2;
      after = permutes_to k due.time due.expiry_gen (taken ps) new m.0 m.2;
    })

pub returns-in-Some-clause-keeps : goal.returns-in-Some-clause-keeps
returns-in-Some-clause-keeps g c =
    let m = c.move_timer.ensures.moves in
    let due = c.args.due in
    let before = c.self.invariant.arranged.counted in
    let after = c.move_timer.ensures.arranged.counted in
    let same = as_many c.in-Some.k due.time due.expiry_gen (taken c.self.inside.row.places) (taken c.move_timer.new.row.places) m.0 m.2 in
    let kept = c.move_timer.ensures.capacity in
    let slots = c.move_timer.ensures.slots in
    rw (← c.self.view_is) (record { is_enabled = refl; origin = refl; moment = refl; next_serial = refl; room = omega arith })
