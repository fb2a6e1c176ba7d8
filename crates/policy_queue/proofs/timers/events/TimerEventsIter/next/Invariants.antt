use Rattle.std.proofs.Common.{◌≡◌, length}
use Rattle.policy_queue.proofs.timers.Advance.{Advancing}
use Rattle.policy_queue.proofs.timers.events.TimerEventsIter.next.Given as goal

abbrev pub invariant-loop-timer : goal.invariant-loop-timer
invariant-loop-timer g l =
    (l.self.wheel.ghost_name ≡ l.initial.self.wheel.ghost_name) × (l.self.entries.ghost_name ≡ l.initial.self.entries.ghost_name) × (l.self.now ≡ l.initial.self.now) × (l.self.is_late ≡ l.initial.self.is_late)
    × Advancing l.initial.self.entries.now l.initial.self.wheel.now l.self.entries.now l.self.wheel.now

abbrev pub decreases-loop-timer : goal.decreases-loop-timer
decreases-loop-timer g l = length l.self.wheel.now.timers
