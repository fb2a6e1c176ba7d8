use Rattle.std.proofs.Common.{subst}
use Rattle.std.specs.Prelude.{option_map}
use Rattle.std.specs.String.{string_bytes}
use Rattle.front_state.specs.Making.{IsMadeWith}
use Rattle.moka.proofs.builder.CacheBuilder.build_state.Goals as goal

pub returns-clause-built : goal.returns-clause-built
returns-clause-built g c = record {
  rules = c.new-rules.result;
  expires = c.new-rules.ensures.expiry;
  weighs = c.new-rules.ensures.weigher;
  bits = c.bits_for-bits.result;
  enough = c.bits_for-bits.ensures.enough;
  least = c.bits_for-bits.ensures.least;
  made = subst (λ settings. IsMadeWith (option_map string_bytes c.args.self.plan.name) c.bits_for-bits.result settings c.args.hasher c.new-rules.result c.in_ok-state.state) c.settings_of-settings.ensures c.in_ok-state.ensures;
}
