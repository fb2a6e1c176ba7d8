use Rattle.std.proofs.Common.{◌≡◌, length}
use Rattle.front_parts.specs.Places.Making.{AreNew}
use Rattle.front_parts.proofs.places.making.new_parts.Given as goal

abbrev pub invariant-loop : goal.invariant-loop
invariant-loop g l = record {
  count : length l.parts.items ≡ l.counter;
  new : AreNew l.settings l.hasher l.rules l.parts.items;
}
