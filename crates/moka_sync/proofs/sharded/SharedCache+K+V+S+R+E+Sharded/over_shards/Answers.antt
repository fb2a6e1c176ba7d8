use Rattle.std.proofs.Common.{◌≡◌, ◌∙◌, ap, arith, option_map}
use Rattle.std.specs.Arc.{arc_value}
use Rattle.std.specs.Duration.{as_nanos}
use Rattle.engine_reference.specs.declared.rules.settings.Policy.{Policy}
use Rattle.front_parts.proofs.wholes.Firsts.{there}
use Rattle.moka_sync.proofs.Showing.{pow_some}
use Rattle.moka_sync.proofs.sharded.«SharedCache+K+V+S+R+E+Sharded».over_shards.Goals as goal

pub index-requires : goal.index-requires
index-requires g c = let some = pow_some c.args.shards.bits in let counted = c.requires.counted in omega arith

pub returns-clause-policy : goal.returns-clause-policy
returns-clause-policy g c =
    let some = pow_some c.args.shards.bits in
    let counted = c.requires.counted in
    let shown = c.policy_of-policy.ensures in
    let kept : (arc_value c.in_ok-inner.inner).policy ≡ c.policy_of-policy.result = rw c.in_ok-inner.ensures.ok c.in_ok-made.ensures.policy in (
      c.index.result.now,
      there c.args.shards.states.items 0 c.index.result.now (omega arith) c.index.ensures,
      record {
        wants = ap (λ (p : Policy). p.max_capacity) kept ∙ shown.wants;
        segments = ap (λ (p : Policy). p.num_segments) kept ∙ shown.segments ∙ c.len.ensures ∙ c.args.shards.states.ok.0;
        live = ap (λ (p : Policy). option_map as_nanos p.time_to_live) kept ∙ shown.live;
        idle = ap (λ (p : Policy). option_map as_nanos p.time_to_idle) kept ∙ shown.idle;
      },
    )
