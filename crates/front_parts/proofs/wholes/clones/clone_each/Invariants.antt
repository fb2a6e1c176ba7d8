use Rattle.std.proofs.Common.{◌≡◌, length}
use Rattle.front_parts.specs.Wholes.Covering.{AreOnly}
use Rattle.front_parts.proofs.wholes.clones.clone_each.Given as goal

abbrev pub invariant-loop : goal.invariant-loop
invariant-loop g l = record {
  count : length l.clones.items ≡ l.counter;
  alike : AreOnly l.predicate l.clones.items;
}
