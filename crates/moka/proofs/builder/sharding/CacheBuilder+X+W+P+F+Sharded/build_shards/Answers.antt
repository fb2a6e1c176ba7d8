use Rattle.std.proofs.Common.{◌∙◌, ap, subst}
use Rattle.front_state.specs.Making.{with_share}
use Rattle.moka.specs.Building.{settings_of}
use Rattle.moka.specs.Sharding.{AreMadeWith}
use Rattle.moka.proofs.builder.sharding.«CacheBuilder+X+W+P+F+Sharded».build_shards.Goals as goal

pub returns-clause-built : goal.returns-clause-built
returns-clause-built g c =
    let share = c.for_part-share.ensures ∙ ap (λ s. with_share c.pow-count.result s) c.settings_of.ensures ∙ ap (λ n. with_share n (settings_of c.args.self.plan c.args.moment)) c.pow-count.ensures in
    record {
      rules = c.in_ok-rules.rules;
      expires = ap (λ r. r.expiry) c.in_ok-rules.ensures ∙ c.new-2.ensures.expiry;
      weighs = ap (λ r. r.weigher) c.in_ok-rules.ensures ∙ c.new-2.ensures.weigher;
      enough = c.bits_for-bits.ensures.enough;
      least = c.bits_for-bits.ensures.least;
      count = c.in_ok-states.ensures.count ∙ c.pow-count.ensures;
      made = subst (λ s. AreMadeWith s c.args.hasher c.in_ok-rules.rules c.in_ok-states.states.items) share
          (subst (λ h. AreMadeWith c.for_part-share.result h c.in_ok-rules.rules c.in_ok-states.states.items) c.in_ok-hasher.ensures c.in_ok-states.ensures.made);
    }
