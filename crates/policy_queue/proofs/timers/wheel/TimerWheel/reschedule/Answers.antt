use Rattle.std.proofs.Common.{◌≡◌, ◌++◌, refl, sym, ap, ◌∙◌, arith}
use Rattle.policy_queue.specs.Timers.Entries.{due_of}
use Rattle.policy_queue.specs.declared.timers.array.Timer.{Timer}
use Rattle.policy_queue.specs.Timers.Places.{taken}
use Rattle.policy_queue.proofs.timers.Wheels.{below_left, below_moved, one_fewer, as_many, permutes_left, permutes_from, permutes_to}
use Rattle.policy_queue.proofs.timers.Comings.{named_id, same_timer}
use Rattle.policy_queue.proofs.timers.wheel.TimerWheel.reschedule.Goals as goal

pub invariant_of-self : goal.invariant_of-self
invariant_of-self g c = record {
  arranged = c.take-timer.ensures.arranged;
  below = below_left c.self.inside.next_serial c.in-Some.k (taken c.self.inside.row.places) (taken c.take-timer.new.row.places) c.take-timer.result c.take-timer.ensures.goes c.self.invariant.below;
}

pub invariant_of-self-in-Some-due_of : goal.invariant_of-self-in-Some-due_of
invariant_of-self-in-Some-due_of g c =
    let m = c.move_timer.ensures.moves in
    let due = c.in-Some-due_of.due in
    record {
      arranged = c.move_timer.ensures.arranged;
      below = below_moved c.self.inside.next_serial c.in-Some.k due.time due.expiry_gen (taken c.self.inside.row.places) (taken c.move_timer.new.row.places) m.0 m.2 c.self.invariant.below;
    }

pub returns-in-None-due_of-clause-rescheduled : goal.returns-in-None-due_of-clause-rescheduled
returns-in-None-due_of-clause-rescheduled g c =
    let ps = c.self.inside.row.places in
    let k = c.in-Some.k in
    let t = c.take-timer.result in
    let same : c.at.result ≡ t = same_timer ps k c.at.result t c.at.ensures c.take-timer.ensures.timer in
    rw (← c.self.view_is) (
      ap (λ (u : Timer). due_of c.args.entries.now u.node.entry_info) (sym same) ∙ sym c.due_of.ensures ∙ c.in-None-due_of.is,
      record {
        timer = t;
        named = named_id ps c.args.id k t c.in-Some.ensures c.take-timer.ensures.timer;
        recorded = refl;
        timers = permutes_left k (taken ps) (taken c.take-timer.new.row.places) t c.take-timer.ensures.goes;
      },
    )

pub returns-in-Some-due_of-clause-rescheduled : goal.returns-in-Some-due_of-clause-rescheduled
returns-in-Some-due_of-clause-rescheduled g c =
    let ps = c.self.inside.row.places in
    let k = c.in-Some.k in
    let m = c.move_timer.ensures.moves in
    let t = m.0 in
    let due = c.in-Some-due_of.due in
    let new = taken c.move_timer.new.row.places in
    let same : c.at.result ≡ t = same_timer ps k c.at.result t c.at.ensures m.1 in
    rw (← c.self.view_is) (record {
      timer = t;
      named = named_id ps c.args.id k t c.in-Some.ensures m.1;
      others = m.2.before ++ m.2.after;
      before = permutes_from k due.time due.expiry_gen (taken ps) new t m.2;
      due = due;
      is_due = ap (λ (u : Timer). due_of c.args.entries.now u.node.entry_info) (sym same) ∙ sym c.due_of.ensures ∙ c.in-Some-due_of.is;
      after = permutes_to k due.time due.expiry_gen (taken ps) new t m.2;
    })

pub returns-in-None-due_of-clause-keeps : goal.returns-in-None-due_of-clause-keeps
returns-in-None-due_of-clause-keeps g c =
    let before = c.self.invariant.arranged.counted in
    let after = c.take-timer.ensures.arranged.counted in
    let fewer = one_fewer c.in-Some.k (taken c.self.inside.row.places) (taken c.take-timer.new.row.places) c.take-timer.result c.take-timer.ensures.goes in
    let kept = c.take-timer.ensures.capacity.0 in
    let slots = c.take-timer.ensures.slots.0 in
    rw (← c.self.view_is) (record { is_enabled = refl; origin = refl; moment = refl; next_serial = refl; room = omega arith })

pub returns-in-Some-due_of-clause-keeps : goal.returns-in-Some-due_of-clause-keeps
returns-in-Some-due_of-clause-keeps g c =
    let m = c.move_timer.ensures.moves in
    let due = c.in-Some-due_of.due in
    let before = c.self.invariant.arranged.counted in
    let after = c.move_timer.ensures.arranged.counted in
    let same = as_many c.in-Some.k due.time due.expiry_gen (taken c.self.inside.row.places) (taken c.move_timer.new.row.places) m.0 m.2 in
    let kept = c.move_timer.ensures.capacity in
    let slots = c.move_timer.ensures.slots in
    rw (← c.self.view_is) (record { is_enabled = refl; origin = refl; moment = refl; next_serial = refl; room = omega arith })
