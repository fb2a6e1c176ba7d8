-- Lists of keys, and whose values are live.
use Rattle.std.specs.Prelude.{ℕ, Bool, true, false, not, ◌&&◌, List, [], ◌∷◌}
use Rattle.std.specs.List.{list_any}
use Rattle.std.specs.Option.{option_map_or}
use Rattle.audit_model.specs.Bytewise.{same}
use Rattle.audit_model.specs.Situation.{HeldValue, is_live_at}
use Rattle.audit_model.specs.declared.config.Config.{Config}
use Rattle.cache_commands.specs.Held.{value_at}

-- the key is among these
abbrev pub is_among_keys : List ℕ → List (List ℕ) → Bool
is_among_keys key keys = list_any (λ k. same key k) keys

-- no key occurs twice among these
abbrev pub are_distinct : List (List ℕ) → Bool
are_distinct [] = true
are_distinct (key ∷ keys) = not (is_among_keys key keys) && are_distinct keys

-- whether the value of a key is live
abbrev pub has_live : Config → ℕ → List HeldValue → List ℕ → Bool
has_live config now items key = option_map_or (is_live_at config now) (value_at items key) false
