-- The weights of parts.
use Rattle.std.specs.Prelude.{ℕ, ◌==◌, List, map, if◌then◌else◌}
use Rattle.std.specs.List.{filter, sum_by}
use Rattle.audit_model.specs.History.{Value}
use Rattle.audit_model.specs.Situation.{HeldValue}

-- the values that are held
abbrev pub values_of : List HeldValue → List Value
values_of held = map (λ h. h.value) held

-- the weight of the values of a part
abbrev pub weight_of_part : ℕ → List Value → ℕ
weight_of_part part values = sum_by (λ v. v.weight) (filter (λ v. v.part == part) values)

-- the weight that a held value adds in this part
abbrev pub weight_if_in : ℕ → HeldValue → ℕ
weight_if_in part h = if h.value.part == part then h.value.weight else 0
