-- Whether all parts are within their shares, part by part.
use Rattle.std.proofs.Common.{◌≡◌, refl, sym, ap, ◌∙◌, ℕ, ◌<◌, true, false, not, List, [], ◌∷◌, Option, Some, None, true≢false, nat_lt, arith}
use Rattle.std.specs.Prelude.{◌==◌}
use Rattle.std.specs.List.{list_all, list_any}
use Rattle.std.proofs.lemmas.Bool.{and_parts, and_from, true_from_ne_false}
use Rattle.std.proofs.lemmas.Bool.Decides.{nat_tests}
use Rattle.audit_model.specs.History.{Value, share}
use Rattle.audit_model.specs.Notes.{is_over}
use Rattle.audit_model.specs.Situation.{HeldValue}
use Rattle.audit_model.specs.declared.config.Config.{Config}
use Rattle.audit_situation.specs.Held.Weights.{weight_of_part, values_of}
use Rattle.audit_situation.proofs.held.Weighing.{weight-cons}

-- a part without values weighs nothing
none-weighs : (part : ℕ) (vs : List Value) → list_any (λ v. v.part == part) vs ≡ false → weight_of_part part vs ≡ 0
none-weighs part [] e = refl
none-weighs part (v ∷ vs) e = let next = none-weighs part vs in grind (arith, e, next, weight-cons part v vs)

-- so it is not over its share
over-some : (config : Config) (part : ℕ) (vs : List Value) → is_over config part vs ≡ true → list_any (λ v. v.part == part) vs ≡ true
over-some config part vs e = true_from_ne_false _ (λ f. true≢false (sym e ∙ by_capacity config.capacity refl (none-weighs part vs f)))
  where
    never : (n : ℕ) → nat_lt n 0 ≡ false
    never n = grind (arith, nat_tests)

    by_capacity : (o : Option ℕ) → config.capacity ≡ o → weight_of_part part vs ≡ 0 → is_over config part vs ≡ false
    by_capacity None f w = ap (λ x. is_over (record config { capacity = x }) part vs) f
    by_capacity (Some capacity) f w = ap (λ x. is_over (record config { capacity = x }) part vs) f ∙ ap (nat_lt (share config capacity)) w ∙ never (share config capacity)

module _ (config : Config) (all : List Value) where
  found-over : (part : ℕ) (vs : List Value) → is_over config part all ≡ true → list_any (λ v. v.part == part) vs ≡ true → list_all (λ v. not (is_over config v.part all)) vs ≡ false
  found-over part [] e f = absurd (true≢false (sym f))
  found-over part (v ∷ vs) e f = let next = found-over part vs e in grind (arith, nat_tests, e, f, next)

  pub none-over : (hs : List HeldValue) → list_all (λ h. nat_lt h.value.part 256) hs ≡ true → ((part : ℕ) → part < 256 → is_over config part all ≡ false)
      → list_all (λ v. not (is_over config v.part all)) (values_of hs) ≡ true
  none-over [] e k = refl
  none-over (h ∷ hs) e k =
      let parts = and_parts (nat_lt h.value.part 256) (list_all (λ h. nat_lt h.value.part 256) hs) e in
      and_from _ _ (ap not (k h.value.part (below h.value.part parts.0))) (none-over hs parts.1 k)
    where
      below : (n : ℕ) → nat_lt n 256 ≡ true → n < 256
      below n e = grind (arith, nat_tests)

-- one part that is over its share
pub one-over : (config : Config) (part : ℕ) (vs : List Value) → is_over config part vs ≡ true → list_all (λ v. not (is_over config v.part vs)) vs ≡ false
one-over config part vs e = found-over config vs part vs e (over-some config part vs e)
