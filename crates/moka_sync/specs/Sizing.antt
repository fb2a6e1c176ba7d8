-- How many shards a cache has.
use Rattle.std.specs.Prelude.{◌≡◌, ◌⊎◌, ℕ, ◌^◌, ◌*◌, ◌<◌, ◌≤◌}

-- as many shards as four for each core, at least 16 and at most 65,536, but at most so many that each has a share of 100 entries
pub record IsShardCount (cores capacity shards : ℕ) : Type 0 where
  pub bits : ℕ
  pub power : shards ≡ 2 ^ bits
  pub few : bits ≤ 16
  pub share : (bits ≡ 0) ⊎ (100 * shards ≤ capacity)
  pub least : (n : ℕ) → 4 * cores ≤ 2 ^ n → 16 ≤ 2 ^ n → bits ≤ n
  pub enough : (bits ≡ 16) ⊎ ((4 * cores ≤ shards) × (16 ≤ shards)) ⊎ (capacity < 200 * shards)
