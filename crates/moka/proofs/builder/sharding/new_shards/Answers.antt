use Rattle.std.proofs.Common.{rules, subst, sym, None}
use Rattle.front_parts.proofs.places.Newness.{one_more}
use Rattle.front_state.specs.Making.{IsMadeWith}
use Rattle.moka.specs.Sharding.{AreMadeWith}
use Rattle.moka.proofs.builder.sharding.new_shards.Goals as goal

pub returns-clause-made : goal.returns-clause-made
returns-clause-made g c = c.loop.invariant.made

pub loop-preserved : goal.loop-preserved
loop-preserved g c =
    let count = c.loop.invariant.count in
    record {
      count = search rules;
      made = subst (λ xs. AreMadeWith c.args.settings c.args.hasher.now c.args.rules.now xs) (sym c.in_ok-push.ensures.items)
          (one_more (λ f. IsMadeWith None 0 c.args.settings c.args.hasher.now c.args.rules.now f) c.loop.shards.items c.in_ok-shard.shard c.loop.invariant.made c.in_ok-shard.ensures);
    }
