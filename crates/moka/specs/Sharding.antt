-- The caches of which a sharded one consists.
use Rattle.std.specs.Prelude.{◌≡◌, ℕ, ◌^◌, ◌≤◌, List, Some, None, length, slice_get}
use Rattle.engine_reference.specs.declared.data.Settings.{Settings}
use Rattle.engine_reference.specs.declared.rules.rules.Bundle.{Bundle}
use Rattle.front_reference.specs.Fronts.{Front}
use Rattle.front_state.specs.Making.{IsMadeWith, with_share}
use Rattle.moka.specs.Building.{settings_of}
use Rattle.moka.specs.declared.builder.Plan.{Plan}

-- each is new, has one part, and was created with these
abbrev pub AreMadeWith : {K V P S R : Type 0} → Settings → S → R → List (Front K V P S R) → Type 0
AreMadeWith {K} {V} {P} {S} {R} settings hasher rules fs =
    (place : ℕ) (f : Front K V P S R) → slice_get fs place ≡ Some f
    → IsMadeWith None 0 settings hasher rules f

-- the fewest, a power of two, that are at least as many as requested, each with its share of the capacity
pub record AreShards {K V Q S X W P F : Type 0} (p : Plan) (expiry : X) (weigher : W) (hasher : S)
    (moment bits : ℕ) (fs : List (Front K V Q S (Bundle X W P F))) : Type 0 where
  pub rules : Bundle X W P F
  pub expires : rules.expiry ≡ expiry
  pub weighs : rules.weigher ≡ weigher
  pub enough : p.segments ≤ 2 ^ bits
  pub least : (n : ℕ) → p.segments ≤ 2 ^ n → bits ≤ n
  pub count : length fs ≡ 2 ^ bits
  pub made : AreMadeWith (with_share (2 ^ bits) (settings_of p moment)) hasher rules fs
