use Rattle.std.proofs.Common.{◌≡◌, ◌-◌, ◌≤◌, length, drop}
use Rattle.policy_queue.specs.Timers.Places.{taken}
use Rattle.policy_queue.proofs.timers.places.first_taken.Given as goal

abbrev pub invariant-loop-first : goal.invariant-loop-first
invariant-loop-first l = (l.from ≤ l.first) × (l.first ≤ length l.places) × (taken (drop l.first l.places) ≡ taken (drop l.from l.places))

abbrev pub decreases-loop-first : goal.decreases-loop-first
decreases-loop-first l = length l.places - l.first
