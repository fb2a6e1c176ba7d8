-- The parts of keys.
use Rattle.std.specs.Prelude.{ℕ, Bool, true, ◌==◌, List, [], ◌∷◌, ◌++◌, map, Option, Some, None, if◌then◌else◌, is_some}
use Rattle.std.specs.List.{find}
use Rattle.std.specs.Option.{option_map, option_map_or}
use Rattle.std.specs.declared.vec.Vec.{Vec}
use Rattle.std.specs.declared.alloc.Global.{Global}
use Rattle.audit_model.specs.Bytewise.{same}
use Rattle.audit_model.specs.History.{Value}

-- a key with its part
pub record KeyPart : Type 0 where
  pub key : List ℕ
  pub part : ℕ

-- the entries as such
abbrev pub parts_of : List (Vec ℕ Global × ℕ) → List KeyPart
parts_of entries = map (λ e. record { key = e.0.items; part = e.1 }) entries

-- the part of a key
abbrev pub part_of_key : List KeyPart → List ℕ → Option ℕ
part_of_key parts key = option_map (λ p. p.part) (find (λ p. same key p.key) parts)

-- the key has that part, or none yet
abbrev pub agrees : List KeyPart → List ℕ → ℕ → Bool
agrees parts key part = option_map_or (λ p. p == part) (part_of_key parts key) true

-- the same of a value, if there is one
abbrev pub agrees_with : List KeyPart → Option Value → Bool
agrees_with parts None = true
agrees_with parts (Some v) = agrees parts v.key v.part

-- the parts with that of a key, if it had none
abbrev pub with_part : List KeyPart → List ℕ → ℕ → List KeyPart
with_part parts key part =
    if is_some (part_of_key parts key)
    then parts
    else parts ++ record { key = key; part = part } ∷ []

-- the same of a value, if there is one
abbrev pub with_value : List KeyPart → Option Value → List KeyPart
with_value parts None = parts
with_value parts (Some v) = with_part parts v.key v.part
