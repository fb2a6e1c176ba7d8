use Rattle.std.proofs.Common.{◌∷◌, refl, subst, arith}
use Rattle.std.specs.List.Sorted.{IsPermutation}
use Rattle.std.proofs.lemmas.List.Sorted.{IsPermutation-refl}
use Rattle.policy_queue.specs.declared.timers.array.Timer.{Timer}
use Rattle.policy_queue.specs.Timers.Timers.{moved}
use Rattle.policy_queue.proofs.timers.Wheels.{leads, leads_same}
use Rattle.policy_queue.proofs.timers.events.settle.Goals as goal

pub returns-then-as_nanos-clause-event : goal.returns-then-as_nanos-clause-event
returns-then-as_nanos-clause-event g c =
    let ts = c.args.wheel.now.timers in
    let first = c.pop_first.ensures.first in
    record {
      timer = c.args.timer;
      recorded = refl;
      timers = subst (λ xs. IsPermutation ts xs) (leads ts c.requires.there.0 c.pop_first.new.self.timers c.args.timer first.0 c.requires.there.1 first.1) (IsPermutation-refl ts);
      due = c.args.due;
      is_due = c.requires.due;
      reached = omega arith;
      placed = c.requires.placed;
    }

pub returns-else-as_nanos-clause-event : goal.returns-else-as_nanos-clause-event
returns-else-as_nanos-clause-event g c =
    let ts = c.args.wheel.now.timers in
    let m = c.move_first.ensures.first in
    record {
      timer = c.args.timer;
      others = m.1;
      timers = subst (λ xs. IsPermutation ts xs) (leads ts c.requires.there.0 m.1 c.args.timer m.0 c.requires.there.1 m.2) (IsPermutation-refl ts);
      due = c.args.due;
      is_due = c.requires.due;
      later = omega arith;
      placed = c.requires.placed;
      moves = subst (λ (u : Timer). IsPermutation (moved u c.args.due.time c.args.due.expiry_gen ∷ m.1) c.move_first.new.self.timers) (leads_same ts c.requires.there.0 m.1 c.args.timer m.0 c.requires.there.1 m.2) m.3;
    }
