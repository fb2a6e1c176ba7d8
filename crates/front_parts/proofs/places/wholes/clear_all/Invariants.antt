use Rattle.std.proofs.Common.{◌≡◌, length}
use Rattle.engine_reference.specs.Calls.{cleared_by}
use Rattle.front_parts.proofs.places.Eaches.{SoFar}
use Rattle.front_parts.proofs.places.wholes.clear_all.Given as goal

abbrev pub invariant-loop-place : goal.invariant-loop-place
invariant-loop-place g l = record {
  far : SoFar (λ s t. t ≡ cleared_by l.step s) l.place l.fn.parts.items l.parts.items;
  count : l.count ≡ length l.fn.parts.items;
}
