use Rattle.policy_queue.specs.Timers.Places.{taken}
use Rattle.policy_queue.proofs.timers.Wheels.{IsWheel-same}
use Rattle.policy_queue.proofs.timers.wheel.TimerWheel.reserve.Goals as goal

pub invariant_of-self-then-is_err : goal.invariant_of-self-then-is_err
invariant_of-self-then-is_err g c = rw c.reserve.ensures.places (IsWheel-same (taken c.self.inside.row.places) c.self.inside.slots c.reserve-2.new.self c.self.inside.next_serial c.reserve-2.ensures.rest_kept c.self.invariant)

pub invariant_of-self-2 : goal.invariant_of-self-2
invariant_of-self-2 g c = rw c.reserve.ensures.places (IsWheel-same (taken c.self.inside.row.places) c.self.inside.slots c.reserve-2.new.self c.self.inside.next_serial c.reserve-2.ensures.rest_kept c.self.invariant)
