-- What a cache shows that was built by a plan.
use Rattle.std.proofs.Common.{◌≡◌, ◌∙◌, ap, ℕ, zero, suc, ◌^◌, ◌<◌, arith, List, Option, option_map}
use Rattle.std.specs.String.{string_bytes}
use Rattle.engine_reference.specs.declared.rules.rules.Bundle.{Bundle}
use Rattle.engine_reference.specs.declared.rules.settings.Policy.{Policy}
use Rattle.front_reference.specs.Fronts.{Front}
use Rattle.moka.specs.Sharding.{AreShards}
use Rattle.moka.specs.declared.builder.Plan.{Plan}
use Rattle.moka_sync.specs.Showing.{ShowsPlan, ShowsShards}

pub pow_some : (n : ℕ) → 0 < 2 ^ n
pow_some zero = omega arith
pow_some (suc n) = let l = pow_some n in omega arith

pub shards_shown : {K V Q S X W P F : Type 0} (p : Plan) (expiry : X) (weigher : W) (hasher : S) (moment bits : ℕ) (fs : List (Front K V Q S (Bundle X W P F))) (name : Option (List ℕ)) (policy : Policy)
    → AreShards p expiry weigher hasher moment bits fs → name ≡ option_map string_bytes p.name → ShowsShards p.max_capacity fs policy → ShowsPlan p name policy
shards_shown p expiry weigher hasher moment bits fs name policy built same shows = record {
  name_is = same;
  capacity = shows.2.wants;
  live = shows.2.live ∙ ap (λ c. c.settings.live) (built.made 0 shows.0 shows.1).common;
  idle = shows.2.idle ∙ ap (λ c. c.settings.idle) (built.made 0 shows.0 shows.1).common;
  bits = bits;
  segments = shows.2.segments ∙ built.count;
  enough = built.enough;
  least = built.least;
}
