use Rattle.std.proofs.Common.{◌∙◌, ap, option_map, subst}
use Rattle.std.specs.Arc.{arc_value}
use Rattle.std.specs.String.{string_bytes}
use Rattle.moka_sync.proofs.Showing.{shards_shown}
use Rattle.moka_sync.specs.Showing.{ShowsShards}
use Rattle.moka_sync.proofs.sharded.build_in_shards.Goals as goal

pub returns-in-Ok-over_shards-clause-shows : goal.returns-in-Ok-over_shards-clause-shows
returns-in-Ok-over_shards-clause-shows g c =
    let built = c.in-Ok.ensures in
    let shown = c.in-Ok-over_shards.ensures in
    shards_shown c.args.builder.plan c.args.builder.expiry c.args.builder.weigher c.args.hasher c.now-moment.result c.in-Ok.shards.bits c.in-Ok.shards.states.items _ _ built.built
    (ap (λ name. option_map string_bytes name) (shown.name ∙ built.name))
    (subst (λ k. ShowsShards k c.in-Ok.shards.states.items (arc_value c.in-Ok-over_shards.cache.inner).policy) built.capacity shown.policy)
