-- What the values of a part weigh, one after another.
use Rattle.std.proofs.Common.{inr, inl, ◌≡◌, ap, ◌∙◌, sym, ℕ, ◌+◌, cond, List, [], ◌∷◌, ◌++◌, Some, arith, zero-add}
use Rattle.std.specs.Prelude.{◌==◌}
use Rattle.std.specs.List.{filter, find, sum_by}
use Rattle.std.proofs.lemmas.List.Sums.{sum_by-cons, sum_by_push}
use Rattle.std.proofs.lemmas.List.Elements.{filter-append}
use Rattle.std.proofs.lemmas.List.{append-nil}
use Rattle.std.proofs.lemmas.Option.{none-some}
use Rattle.audit_model.specs.Bytewise.{same}
use Rattle.audit_model.specs.History.{Value}
use Rattle.audit_model.specs.Values.{without_key}
use Rattle.audit_situation.specs.Held.Weights.{weight_of_part}
use Rattle.std.proofs.lemmas.Bool.{cases_Bool}

-- one value in front
pub weight-cons : (part : ℕ) (v : Value) (vs : List Value) → weight_of_part part (v ∷ vs) ≡ cond (v.part == part) v.weight 0 + weight_of_part part vs
weight-cons part v vs = elim (cases_Bool (v.part == part)) [ inl e ↦ rw e (sum_by-cons (λ w. w.weight) v (filter (λ w. w.part == part) vs)) | inr e ↦ rw e (sym (zero-add _)) ]

-- one value behind
pub weight-push : (part : ℕ) (vs : List Value) (v : Value) → weight_of_part part (vs ++ v ∷ []) ≡ weight_of_part part vs + cond (v.part == part) v.weight 0
weight-push part vs v =
    ap (sum_by (λ w. w.weight)) (filter-append (λ w. w.part == part) vs (v ∷ [])) ∙ (elim (cases_Bool (v.part == part)) [
      | inl e ↦ rw e (sum_by_push (λ w. w.weight) (filter (λ w. w.part == part) vs) v)
      | inr e ↦ rw e (ap (sum_by (λ w. w.weight)) (append-nil (filter (λ w. w.part == part) vs)) ∙ omega arith)
    ])

swapped : (a w x y : ℕ) → a + x ≡ y → a + (w + x) ≡ w + y
swapped a w x y e = omega arith

-- the key's first value, and the others
pub weight-without : (key : List ℕ) (part : ℕ) (vs : List Value) (v : Value) → find (λ w. same key w.key) vs ≡ Some v
    → cond (v.part == part) v.weight 0 + weight_of_part part (without_key (λ w. w.key) key vs) ≡ weight_of_part part vs
weight-without key part [] v e = absurd (none-some v e)
weight-without key part (w ∷ vs) v e =
    (elim (cases_Bool (same key w.key)) [ inl t ↦ rw t (let is : w ≡ v = cc in ap (λ (x : Value). cond (x.part == part) x.weight 0 + weight_of_part part vs) (sym is)) | inr t ↦ rw t (ap (λ n. cond (v.part == part) v.weight 0 + n) (weight-cons part w (without_key (λ w. w.key) key vs)) ∙ swapped _ (cond (w.part == part) w.weight 0) _ (weight_of_part part vs) ((weight-without key part vs v) (rw t at e))) ]) ∙ sym (weight-cons part w vs)

-- the same of all parts
pub sum-without : (key : List ℕ) (vs : List Value) (v : Value) → find (λ w. same key w.key) vs ≡ Some v
    → v.weight + sum_by (λ w. w.weight) (without_key (λ w. w.key) key vs) ≡ sum_by (λ w. w.weight) vs
sum-without key [] v e = absurd (none-some v e)
sum-without key (w ∷ vs) v e =
    (elim (cases_Bool (same key w.key)) [ inl t ↦ rw t (let is : w ≡ v = cc in ap (λ (x : Value). x.weight + sum_by (λ w. w.weight) vs) (sym is)) | inr t ↦ rw t (ap (λ n. v.weight + n) (sum_by-cons (λ w. w.weight) w (without_key (λ w. w.key) key vs)) ∙ swapped _ w.weight _ (sum_by (λ w. w.weight) vs) ((sum-without key vs v) (rw t at e))) ]) ∙ sym (sum_by-cons (λ w. w.weight) w vs)
