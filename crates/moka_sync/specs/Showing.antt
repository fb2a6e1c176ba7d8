-- What a shared cache shows of how it was built.
use Rattle.std.specs.Prelude.{◌≡◌, ℕ, ◌≤◌, ◌^◌, List, Option, Some, length, option_map, slice_get}
use Rattle.std.specs.Duration.{as_nanos}
use Rattle.std.specs.String.{string_bytes}
use Rattle.engine_reference.specs.declared.rules.settings.Policy.{Policy}
use Rattle.front_reference.specs.Fronts.{Front}
use Rattle.front_state.specs.Calls.{Ways}
use Rattle.moka.specs.Building.{as_limit}
use Rattle.moka.specs.declared.builder.Plan.{Plan}
use Rattle.moka_sync.specs.Holding.{DidShow, DoneUnderLock}
use Rattle.moka_sync.specs.Spreading.{desk_number}
use Rattle.moka_sync.specs.declared.spreading.Spread.{Spread}

-- the name, capacity and times of a plan, and the fewest segments, a power of two, that are at least as many as it asks for
pub record ShowsPlan (p : Plan) (name : Option (List ℕ)) (policy : Policy) : Type 0 where
  pub name_is : name ≡ option_map string_bytes p.name
  pub capacity : policy.max_capacity ≡ p.max_capacity
  pub live : option_map as_nanos policy.time_to_live ≡ as_limit p.expiration.time_to_live
  pub idle : option_map as_nanos policy.time_to_idle ≡ as_limit p.expiration.time_to_idle
  pub bits : ℕ
  pub segments : policy.num_segments ≡ 2 ^ bits
  pub enough : p.segments ≤ 2 ^ bits
  pub least : (n : ℕ) → p.segments ≤ 2 ^ n → bits ≤ n

-- this capacity, so many shards, and the times of one of them
pub record ShowsShard {K V P S R : Type 0} (capacity : Option ℕ) (count : ℕ) (f : Front K V P S R)
    (policy : Policy) : Type 0 where
  pub wants : policy.max_capacity ≡ capacity
  pub segments : policy.num_segments ≡ count
  pub live : option_map as_nanos policy.time_to_live ≡ f.common.settings.live
  pub idle : option_map as_nanos policy.time_to_idle ≡ f.common.settings.idle

-- the same of several shards: their number, and the times of the first
abbrev pub ShowsShards : {K V P S R : Type 0} → Option ℕ → List (Front K V P S R) → Policy → Type 0
ShowsShards {K} {V} {P} {S} {R} capacity fs policy =
    (f : Front K V P S R) × (slice_get fs 0 ≡ Some f) × ShowsShard capacity (length fs) f policy

-- this value of a key was visible, in a hold of the lock of its desk
abbrev pub ShowsItem : {K V P S R : Type 0} → Ways K V P S R → (hash : S → K → ℕ) → Option (Spread S)
    → K × V → Type 0
ShowsItem ways hash spread pair =
    DoneUnderLock (desk_number hash spread pair.0) (DidShow ways pair.0 pair.1)
