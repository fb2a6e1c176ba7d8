use Rattle.std.proofs.Common.{◌≡◌, ◌≤◌, drop}
use Rattle.std.specs.Vec.{vec_len, vec_capacity}
use Rattle.policy_queue.specs.Timers.Places.{taken}
use Rattle.policy_queue.proofs.timers.Spreads.{IsCompact}
use Rattle.policy_queue.proofs.timers.places.compact.Given as goal

abbrev pub invariant-loop-from : goal.invariant-loop-from
invariant-loop-from l =
    (l.filled ≤ l.from) × (vec_len l.places ≡ vec_len l.fn.places) × (vec_capacity l.places ≡ vec_capacity l.fn.places)
    × IsCompact l.places.items l.filled l.from (taken (drop l.front l.fn.places.items))
