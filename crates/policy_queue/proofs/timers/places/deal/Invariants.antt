use Rattle.std.proofs.Common.{◌≡◌, ◌+◌, ◌≤◌, length, drop, take, ◌++◌}
use Rattle.policy_queue.specs.Timers.Places.{taken}
use Rattle.policy_queue.proofs.timers.Spreads.{IsDealt}
use Rattle.policy_queue.proofs.timers.places.deal.Given as goal

abbrev pub invariant-loop-left : goal.invariant-loop-left
invariant-loop-left l =
    (1 ≤ l.left) × (l.left ≤ l.end) × (l.end ≤ length l.places) × (l.owed ≤ l.held + l.spares) × (l.spares + l.held ≡ length l.places)
    × IsDealt (take l.left l.places ++ drop l.end l.places) (taken (take l.held l.fn.places))

abbrev pub decreases-loop-left : goal.decreases-loop-left
decreases-loop-left l = l.end
