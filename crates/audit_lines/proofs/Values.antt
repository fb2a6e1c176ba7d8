-- Bytes that may stand as a value.
use Rattle.std.proofs.Common.{◌≡◌, ℕ, suc, ◌<◌, Bool, true, List, [], ◌∷◌, length, get_or, refl, Option, Some, None, sym, ◌∙◌, ⊎_elim, arith}
use Rattle.std.specs.Prelude.{not, is_some}
use Rattle.std.specs.List.{list_all}
use Rattle.std.proofs.lemmas.Bool.{not-true, not-false, false_from_ne_true, or_cases, or_parts, and_from, and_left, and_right, not_from_false, not_from_true}
use Rattle.std.proofs.lemmas.List.Folds.{list_all_at}
use Rattle.memchr.specs.Find.{IsFirstByte, is_byte2}
use Rattle.audit_model.specs.Grammar.{is_value}

-- a test that holds at each index holds of all
list_all-from_index : (p : ℕ → Bool) (bytes : List ℕ) → ((k : ℕ) → k < length bytes → p (get_or bytes k 0) ≡ true) → list_all p bytes ≡ true
list_all-from_index p [] each = refl
list_all-from_index p (b ∷ bs) each = and_from _ _ (each 0 (omega arith)) (list_all-from_index p bs (λ k under. each (suc k) (omega arith)))

-- a search for a line feed or a carriage return
pub is_value-searched : (bytes : List ℕ) (r : Option ℕ) (fits : Bool) → IsFirstByte (is_byte2 10 13) bytes r → is_some r ≡ not fits → fits ≡ is_value bytes
is_value-searched bytes None fits none is = not-false fits (sym is) ∙ sym (list_all-from_index _ bytes (λ k under.
    let parts = or_parts _ _ (false_from_ne_true _ (none k (omega arith) under)) in
    and_from _ _ (not_from_false _ parts.0) (not_from_false _ parts.1)))
is_value-searched bytes (Some k) fits found is = not-true fits (sym is) ∙ sym (list_all_at _ bytes k 0 found.0.high
    (⊎_elim (λ feed. and_left _ _ (not_from_true _ feed)) (λ return. and_right _ _ (not_from_true _ return)) (or_cases _ _ found.1)))
