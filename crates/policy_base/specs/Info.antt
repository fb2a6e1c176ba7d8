-- An entry as its callers see it.
use Rattle.std.specs.Prelude.{ℕ, ◌*◌, ◌/◌, min, Bool, false, Option, None}
use Rattle.policy_base.specs.declared.records.KeyHash.{KeyHash}

pub record Info (K : Type 0) : Type 0 where
  pub key_hash : KeyHash K
  pub is_admitted : Bool
  pub is_retired : Bool
  pub entry_gen : ℕ
  pub policy_gen : ℕ
  pub last_accessed : ℕ
  pub last_modified : ℕ
  pub write_step : ℕ
  pub policy_weight : ℕ
  pub expiration_time : Option ℕ
  pub expiry_gen : ℕ

-- an own expiration as it is kept: in steps of 4096, and not too late
abbrev pub kept_time : ℕ → ℕ
kept_time t = min (t / 4096 * 4096) 0xFFFF_FFFF_FFFF_E000

-- an entry that was just created
abbrev pub new_info : {K : Type 0} → KeyHash K → ℕ → ℕ → Info K
new_info key_hash moment weight = record {
  key_hash = key_hash;
  is_admitted = false;
  is_retired = false;
  entry_gen = 1;
  policy_gen = 0;
  last_accessed = moment;
  last_modified = moment;
  write_step = 0;
  policy_weight = weight;
  expiration_time = None;
  expiry_gen = 0;
}
