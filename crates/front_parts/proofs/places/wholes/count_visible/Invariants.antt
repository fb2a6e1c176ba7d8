use Rattle.std.proofs.Common.{◌≡◌, ◌+◌, ◌≤◌, length, min}
use Rattle.std.specs.Prelude.{sum_by}
use Rattle.engine_reference.specs.Scanning.{visible_keys}
use Rattle.front_parts.proofs.places.wholes.count_visible.Given as goal

abbrev pub invariant-loop-part : goal.invariant-loop-part
invariant-loop-part g l = record {
  few : l.total ≤ 18446744073709551615;
  sum : min (l.total + sum_by (λ s. length (visible_keys g.R.Rules.answers g.K.PartialEq.eq s l.fn.now)) l.rest) 18446744073709551615
      ≡ min (sum_by (λ s. length (visible_keys g.R.Rules.answers g.K.PartialEq.eq s l.fn.now)) l.fn.parts) 18446744073709551615;
}

abbrev pub decreases-loop-part : goal.decreases-loop-part
decreases-loop-part g l = length l.rest
