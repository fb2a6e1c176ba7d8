-- Copies of operations.
use Rattle.std.specs.Prelude.{◌≡◌}
use Rattle.std.specs.Arc.{arc_value}
use Rattle.policy_base.specs.declared.records.WriteOp.{WriteOp}
use Rattle.policy_base.specs.declared.records.WriteOp.TheVariants.{Upsert, Remove}

-- the same operation, with a clone of the value
abbrev pub IsCopy : {K : Type 0} {V : Type 0} → (V → V → Type 0) → WriteOp K V → WriteOp K V
    → Type 0
IsCopy is_clone (Upsert k e g o n) (Upsert k' e' g' o' n') =
    (arc_value k'.key ≡ arc_value k.key) × (k'.hash ≡ k.hash) × (e' ≡ e) × (g' ≡ g) × (o' ≡ o)
    × (n' ≡ n)
IsCopy is_clone (Remove r g) (Remove r' g') =
    (arc_value r'.key ≡ arc_value r.key) × is_clone r.entry.value r'.entry.value
    × (r'.entry.entry ≡ r.entry.entry) × (g' ≡ g)
IsCopy is_clone (Upsert k e g o n) (Remove r' g') = ⊥
IsCopy is_clone (Remove r g) (Upsert k' e' g' o' n') = ⊥
