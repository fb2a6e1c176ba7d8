use Rattle.std.proofs.Common.{◌≡◌, length}
use Rattle.std.specs.List.{list_any}
use Rattle.front_parts.proofs.places.wholes.is_table_refused.Given as goal

abbrev pub invariant-loop-part : goal.invariant-loop-part
invariant-loop-part g l = list_any (λ s. s.table_refused) l.rest ≡ list_any (λ s. s.table_refused) l.fn.parts

abbrev pub decreases-loop-part : goal.decreases-loop-part
decreases-loop-part g l = length l.rest
