use Rattle.std.proofs.Common.{inr, inl, ◌≡◌, sym, ap, ◌∙◌, subst, ℕ, ◌+◌, ◌<◌, Bool, false, List, [], ◌∷◌, ◌++◌, length, get_or, Some, nat_lt, arith, length-append}
use Rattle.std.proofs.lemmas.Bool.{cases_lt}
use Rattle.std.proofs.lemmas.List.{get_or_append_left, get_or_at}
use Rattle.audit_model.specs.Notes.{just_accepted}
use Rattle.audit_situation.specs.Held.Weights.{values_of, weight_of_part}
use Rattle.audit_situation.proofs.notes.weights.overfilled_by.Goals as goal

-- one mark more
more-marks : (f : ℕ → Bool) (ms : List Bool) → ((k : ℕ) → k < length ms → get_or ms k false ≡ f k) → (k : ℕ) → k < length ms + 1 → get_or (ms ++ f (length ms) ∷ []) k false ≡ f k
more-marks f ms each k lt =
    elim (cases_lt k (length ms)) [
      | inl below ↦ get_or_append_left ms (f (length ms) ∷ []) false k below ∙ each k below
      | inr above ↦ let is : length ms ≡ k = omega arith in get_or_at ms (f (length ms)) [] false k is ∙ ap f is
    ]

pub loop-part-preserved : goal.loop-part-preserved
loop-part-preserved c =
    let f : ℕ → Bool = λ part. nat_lt c.args.limit (weight_of_part part (just_accepted (values_of c.args.held.now) (Some c.args.newcomer.now.value))) in
    let ms = c.loop-part.marks.items in
    let b = nat_lt c.args.limit c.in_ok-weight.weight in
    let len = c.loop-part.invariant.many in
    record {
      many = ap length c.in_ok-push.ensures.items ∙ length-append ms (b ∷ []) ∙ ap (λ n. n + 1) len;
      each = λ part lt.
          ap (λ xs. get_or xs part false) (c.in_ok-push.ensures.items ∙ ap (λ b. ms ++ b ∷ []) (ap (nat_lt c.args.limit) c.in_ok-weight.ensures ∙ ap f (sym len)))
          ∙ more-marks f ms (λ k lt. c.loop-part.invariant.each k (subst (λ n. k < n) len lt)) part (subst (λ n. part < n + 1) (sym len) lt);
    }
