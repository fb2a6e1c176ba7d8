use Rattle.std.proofs.Common.{◌≡◌, ◌<◌, ◌≤◌, ℕ, get_or}
use Rattle.policy_queue.specs.Indices.{vacant}
use Rattle.policy_queue.proofs.index_queue.first_taken.Given as goal

abbrev pub invariant-loop-k : goal.invariant-loop-k
invariant-loop-k l = (j : ℕ) → l.fn.from ≤ j → j < l.k → get_or l.places j vacant ≡ vacant
