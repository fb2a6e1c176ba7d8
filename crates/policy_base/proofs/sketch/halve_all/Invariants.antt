use Rattle.std.proofs.Common.{◌≡◌, ◌≤◌, ◌<◌, ℕ, get_or, map}
use Rattle.policy_base.specs.Counts.{nibbles, half}
use Rattle.policy_base.proofs.sketch.halve_all.Given as goal

abbrev pub invariant-loop-word : goal.invariant-loop-word
invariant-loop-word l =
    ((k : ℕ) → k < l.word-index → nibbles 16 (get_or l.table k 0) ≡ map half (nibbles 16 (get_or l.fn.table k 0)))
    × ((k : ℕ) → l.word-index ≤ k → get_or l.table k 0 ≡ get_or l.fn.table k 0)
