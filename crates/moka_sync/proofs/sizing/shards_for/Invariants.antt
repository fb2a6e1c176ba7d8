use Rattle.std.proofs.Common.{◌≡◌, ◌⊎◌, ◌≤◌, ◌-◌, ◌*◌, ◌^◌, ℕ}
use Rattle.moka_sync.proofs.sizing.shards_for.Given as goal

abbrev pub decreases-loop-bits : goal.decreases-loop-bits
decreases-loop-bits l = 16 - l.bits

abbrev pub invariant-loop-bits : goal.invariant-loop-bits
invariant-loop-bits l = record {
  few : l.bits ≤ 16;
  share : (l.bits ≡ 0) ⊎ (100 * (2 ^ l.bits) ≤ l.max_capacity);
  least : (n : ℕ) → l.wanted ≤ 2 ^ n → l.bits ≤ n;
}
