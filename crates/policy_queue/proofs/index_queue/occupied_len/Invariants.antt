use Rattle.std.proofs.Common.{◌≡◌, ◌≤◌, ℕ, get_or, length}
use Rattle.policy_queue.specs.Indices.{vacant}
use Rattle.policy_queue.proofs.index_queue.occupied_len.Given as goal

abbrev pub invariant-loop-len : goal.invariant-loop-len
invariant-loop-len l = (l.len ≤ length l.places) × ((j : ℕ) → l.len ≤ j → get_or l.places j vacant ≡ vacant)

abbrev pub decreases-loop-len : goal.decreases-loop-len
decreases-loop-len l = l.len
