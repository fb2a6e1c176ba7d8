-- The last of a list.
use Rattle.std.proofs.Common.{◌≡◌, suc, ◌-◌, List, [], ◌∷◌, length, Some, sym, ap, ◌∙◌, arith}
use Rattle.std.specs.List.{slice_get}
use Rattle.std.proofs.lemmas.Option.{none-some, same_Some}
use Rattle.audit_model.specs.declared.transcript.Step.{Step}
use Rattle.audit_laws.specs.Receipts.Answers.{last_is_held}

-- the last but for the first is the last
last-behind : {X : Type 0} (x y : X) (xs : List X) → slice_get (x ∷ y ∷ xs) (length (x ∷ y ∷ xs) - 1) ≡ slice_get (y ∷ xs) (length (y ∷ xs) - 1)
last-behind x y xs =
    let e : length (x ∷ y ∷ xs) - 1 ≡ suc (length (y ∷ xs) - 1) = omega arith in
    ap (slice_get (x ∷ y ∷ xs)) e

pub held-last : (steps : List Step) (step : Step) → slice_get steps (length steps - 1) ≡ Some step → step.held ≡ last_is_held steps
held-last [] step e = absurd (none-some step e)
held-last (x ∷ []) step e = ap (λ (s : Step). s.held) (sym (same_Some x step e))
held-last (x ∷ y ∷ steps) step e = held-last (y ∷ steps) step (sym (last-behind x y steps) ∙ e)
