-- What a front shows of itself.
use Rattle.std.specs.Prelude.{◌≡◌, length, option_map}
use Rattle.std.specs.Duration.{as_nanos}
use Rattle.engine_reference.specs.declared.rules.settings.Policy.{Policy}
use Rattle.front_reference.specs.Fronts.{Front}

-- the configured capacity, the number of parts, and the times
pub record ShowsPolicy {K V P S R : Type 0} (f : Front K V P S R) (p : Policy) : Type 0 where
  pub capacity : p.max_capacity ≡ f.capacity
  pub segments : p.num_segments ≡ length f.parts
  pub live : option_map as_nanos p.time_to_live ≡ f.common.settings.live
  pub idle : option_map as_nanos p.time_to_idle ≡ f.common.settings.idle
