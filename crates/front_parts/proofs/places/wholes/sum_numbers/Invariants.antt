use Rattle.std.proofs.Common.{◌≡◌, ◌+◌, ◌≤◌, length, min}
use Rattle.std.specs.Prelude.{sum_by}
use Rattle.front_parts.proofs.places.wholes.sum_numbers.Given as goal

abbrev pub invariant-loop-part : goal.invariant-loop-part
invariant-loop-part g l = record {
  few : l.total ≤ 18446744073709551615;
  sum : min (l.total + sum_by (λ s. s.number) l.rest) 18446744073709551615 ≡ min (sum_by (λ s. s.number) l.fn.parts) 18446744073709551615;
}

abbrev pub decreases-loop-part : goal.decreases-loop-part
decreases-loop-part g l = length l.rest
