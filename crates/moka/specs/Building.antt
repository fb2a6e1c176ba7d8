-- What a builder builds.
use Rattle.std.specs.Prelude.{◌≡◌, ℕ, ◌^◌, ◌≤◌, ◌==◌, nat_lt, min, Bool, false, if◌then◌else◌, Option, Some, None, option_map}
use Rattle.std.specs.Duration.{as_nanos}
use Rattle.std.specs.String.{string_bytes}
use Rattle.std.specs.declared.time.Duration.{Duration}
use Rattle.engine_reference.specs.declared.data.Settings.{Settings}
use Rattle.front_reference.specs.Fronts.{Front}
use Rattle.front_state.specs.Making.{IsMadeWith}
use Rattle.engine_reference.specs.declared.rules.rules.Bundle.{Bundle}
use Rattle.engine_reference.specs.declared.rules.settings.EvictionPolicy.TheVariants.{TinyLfu}
use Rattle.moka.specs.declared.builder.Plan.{Plan}
use Rattle.moka.specs.declared.errors.BuildError.{BuildError}
use Rattle.moka.specs.declared.errors.BuildError.TheVariants.{TimeToLiveTooLong, TimeToIdleTooLong, NoSegments, TooManySegments}

-- longer than 1000 years of 365 days
abbrev pub is_too_long : Option Duration → Bool
is_too_long None = false
is_too_long (Some time) = nat_lt 31536000000000000000 (as_nanos time)

abbrev pub time_fault : (live idle : Option Duration) → Option BuildError
time_fault live idle =
    if is_too_long live then Some TimeToLiveTooLong
    else (if is_too_long idle then Some TimeToIdleTooLong else None)

abbrev pub segments_fault : ℕ → Option BuildError
segments_fault segments =
    if segments == 0 then Some NoSegments
    else (if nat_lt 65536 segments then Some TooManySegments else None)

abbrev pub first_fault : Option BuildError → Option BuildError → Option BuildError
first_fault (Some e) other = Some e
first_fault None other = other

-- a time as it is kept
abbrev pub as_limit : Option Duration → Option ℕ
as_limit None = None
as_limit (Some time) = Some (min (as_nanos time) 18446744073709551614)

-- nothing is set
abbrev pub blank : Plan
blank =
    record {
      name = None;
      max_capacity = None;
      initial_capacity = 0;
      segments = 1;
      policy = TinyLfu;
      expiration = record { time_to_live = None; time_to_idle = None };
      tells = false;
      takes_predicates = false;
    }

-- the first thing that is wrong with the settings, if anything is
abbrev pub fault_of : Plan → Option BuildError
fault_of p =
    first_fault (time_fault p.expiration.time_to_live p.expiration.time_to_idle)
    (segments_fault p.segments)

-- the settings with which all segments together are created
abbrev pub settings_of : Plan → (made : ℕ) → Settings
settings_of p made = record {
  capacity = p.max_capacity;
  live = as_limit p.expiration.time_to_live;
  idle = as_limit p.expiration.time_to_idle;
  policy = p.policy;
  tells = p.tells;
  takes_predicates = p.takes_predicates;
  made = made;
}

-- a new cache of the fewest parts, a power of two, that are at least as many as requested
pub record IsBuilt {K V Q S X W P F : Type 0} (p : Plan) (expiry : X) (weigher : W) (hasher : S)
    (moment : ℕ) (f : Front K V Q S (Bundle X W P F)) : Type 0 where
  pub rules : Bundle X W P F
  pub expires : rules.expiry ≡ expiry
  pub weighs : rules.weigher ≡ weigher
  pub bits : ℕ
  pub enough : p.segments ≤ 2 ^ bits
  pub least : (n : ℕ) → p.segments ≤ 2 ^ n → bits ≤ n
  pub made : IsMadeWith (option_map string_bytes p.name) bits (settings_of p moment) hasher rules f

-- the same with plain rules: with this capacity and this many segments, and nothing else set
pub record IsBuiltPlainly {K V Q S X W P F : Type 0} (max_capacity segments moment : ℕ)
    (f : Front K V Q S (Bundle X W P F)) : Type 0 where
  pub expiry : X
  pub weigher : W
  pub hasher : S
  pub built : IsBuilt (record blank {
    max_capacity = Some max_capacity;
    segments = segments;
  }) expiry weigher hasher moment f
