use Rattle.std.proofs.Common.{◌≤◌, ◌-◌, ◌^◌, ℕ}
use Rattle.moka.proofs.settling.bits_for.Given as goal

abbrev pub decreases-loop-bits : goal.decreases-loop-bits
decreases-loop-bits l = 16 - l.bits

abbrev pub invariant-loop-bits : goal.invariant-loop-bits
invariant-loop-bits l = record {
  few : l.bits ≤ 16;
  least : (bits : ℕ) → l.segments ≤ 2 ^ bits → l.bits ≤ bits;
}
