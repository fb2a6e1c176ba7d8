use Rattle.std.proofs.Common.{◌≡◌, length}
use Rattle.front_reference.specs.Wholes.{RunsPart}
use Rattle.front_parts.proofs.places.Eaches.{SoFar}
use Rattle.front_parts.proofs.places.wholes.run_all.Given as goal

abbrev pub invariant-loop-place : goal.invariant-loop-place
invariant-loop-place g l = record {
  far : SoFar (RunsPart g.R.Rules.answers l.now) l.place l.fn.parts.items l.parts.items;
  count : l.count ≡ length l.fn.parts.items;
}
