use Rattle.std.proofs.Common.{◌≡◌, length}
use Rattle.moka.specs.Sharding.{AreMadeWith}
use Rattle.moka.proofs.builder.sharding.new_shards.Given as goal

abbrev pub invariant-loop : goal.invariant-loop
invariant-loop g l = record {
  count : length l.shards.items ≡ l.counter;
  made : AreMadeWith l.settings l.hasher l.rules l.shards.items;
}
