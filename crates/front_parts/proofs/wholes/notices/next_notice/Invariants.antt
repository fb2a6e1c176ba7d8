use Rattle.std.proofs.Common.{◌≡◌, length}
use Rattle.front_parts.proofs.wholes.Told.{NoneTold}
use Rattle.front_parts.proofs.wholes.notices.next_notice.Given as goal

abbrev pub invariant-loop-place : goal.invariant-loop-place
invariant-loop-place g l = record {
  same : l.parts.items ≡ l.fn.parts.items;
  none : NoneTold l.place l.fn.parts.items;
  count : l.count ≡ length l.fn.parts.items;
}
