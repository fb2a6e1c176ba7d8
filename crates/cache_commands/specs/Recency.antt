-- Exact recency: the order of use in a store that evicts the least recently used value, over one part with a capacity of this many values,
-- none of which a time ends.
use Rattle.std.specs.Prelude.{◌≡◌, ℕ, suc, Bool, false, List, ◌∷◌, map, Some, None, if◌then◌else◌, IsPermutation}
use Rattle.std.specs.List.{list_any}
use Rattle.audit_model.specs.Bytewise.{same}
use Rattle.audit_model.specs.History.{part_count}
use Rattle.audit_model.specs.Recency.{keys_without}
use Rattle.audit_model.specs.Situation.{HeldValue}
use Rattle.audit_model.specs.declared.config.Config.{Config}
use Rattle.audit_model.specs.declared.config.Weight.TheVariants.{One}
use Rattle.audit_model.specs.declared.config.EvictionPolicy.TheVariants.{Lru}

-- the policy is LRU, over one part of `suc number` values, each of weight one, and no time ends a value
pub record IsPlainLru (config : Config) (number : ℕ) : Type 0 where
  pub policy : config.policy ≡ Lru
  pub parts : part_count config ≡ 1
  pub weight : config.weight ≡ One
  pub capacity : config.capacity ≡ Some (suc number)
  pub live : config.live_ms ≡ None
  pub idle : config.idle_ms ≡ None
  pub own : config.own_deadlines ≡ false

-- a key that is written moves to the front
abbrev pub put_first : List ℕ → List (List ℕ) → List (List ℕ)
put_first key keys = key ∷ keys_without key keys

-- a key that is looked up moves to the front, if it is there
abbrev pub used_first : List ℕ → List (List ℕ) → List (List ℕ)
used_first key keys = if list_any (λ k. same k key) keys then put_first key keys else keys

-- the values held have exactly these keys
abbrev pub AreKeysOf : List HeldValue → List (List ℕ) → Type 0
AreKeysOf held keys = IsPermutation (map (λ h. h.value.key) held) keys

-- what is true by these orders of use stays true
abbrev pub KeepsRecency : (Bool → List (List ℕ) → Type 0) → (Bool → List (List ℕ) → Type 0) → Type 0
KeepsRecency old new = (settled : Bool) (keys : List (List ℕ)) → old settled keys → new settled keys
