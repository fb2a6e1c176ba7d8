-- What the values of a part weigh.
use Rattle.audit_model.specs.History.{Value, share}
use Rattle.audit_model.specs.Notes.{is_over}
use Rattle.audit_model.specs.Situation.{HeldValue}
use Rattle.audit_model.specs.declared.config.Config.{Config}
use Rattle.cache_commands.specs.Running.{weight_in}
use Rattle.cache_commands.proofs.Held.{permutation}
use Rattle.cache_commands.specs.Held.{plain, Corresponds, exceeds, have_own_keys}
use Rattle.std.proofs.Common.{◌≡◌, ℕ, ◌+◌, ◌==◌, cond, true, List, [], ◌∷◌, map, Option, Some, None, refl, sym, ap, ◌∙◌, arith, nat_lt, option_map}
use Rattle.std.proofs.lemmas.List.Sorted.{sum_by-IsPermutation}
use Rattle.std.proofs.lemmas.List.Sums.{sum_by-cons}
use Rattle.std.specs.List.{filter, sum_by}

-- ---- sums from the start

pub weight_in-cons : (part : ℕ) (h : HeldValue) (items : List HeldValue) → weight_in part (h ∷ items) ≡ cond (h.value.part == part) (h.value.weight) 0 + weight_in part items
weight_in-cons part h items = grind (arith, sum_by-cons (λ (g : HeldValue). g.value.weight) h (filter (λ (g : HeldValue). g.value.part == part) items))

-- what a value adds to the weight of a part
abbrev pub adds : ℕ → HeldValue → ℕ
adds part h = cond (h.value.part == part) h.value.weight 0

pub weight_in-sum : (part : ℕ) (items : List HeldValue) → weight_in part items ≡ sum_by (adds part) items
weight_in-sum part [] = refl
weight_in-sum part (h ∷ items) = weight_in-cons part h items ∙ ap (λ n. adds part h + n) (weight_in-sum part items) ∙ sym (sum_by-cons (adds part) h items)

sum-plain : (part : ℕ) (held : List HeldValue) → sum_by (adds part) (map plain held) ≡ sum_by (adds part) held
sum-plain part [] = refl
sum-plain part (h ∷ held) = sum_by-cons (adds part) (plain h) (map plain held) ∙ ap (λ n. adds part h + n) (sum-plain part held) ∙ sym (sum_by-cons (adds part) h held)

-- the values held weigh what the items do
pub same_weight : (part : ℕ) (items held : List HeldValue) → have_own_keys items ≡ true → Corresponds items held → weight_in part held ≡ weight_in part items
same_weight part items held a c = grind (arith, weight_in-sum part held, sum-plain part held, sum_by-IsPermutation (adds part) (map plain held) items (permutation items held a c), permutation items held a c, weight_in-sum part items)

-- as values
pub weight-values : (part : ℕ) (held : List HeldValue)
    → sum_by (λ (v : Value). v.weight) (filter (λ (v : Value). v.part == part) (map (λ (h : HeldValue). h.value) held)) ≡ weight_in part held
weight-values part [] = refl
weight-values part (h ∷ held) =
    let first = sum_by-cons (λ (v : Value). v.weight) h.value (filter (λ (v : Value). v.part == part) (map (λ (h : HeldValue). h.value) held)) in
    grind (arith, first, weight-values part held, weight_in-cons part h held)

over-from : (capacity : Option ℕ) (config : Config) (part : ℕ) (values : List Value) (weight : ℕ) → sum_by (λ (v : Value). v.weight) (filter (λ (v : Value). v.part == part) values) ≡ weight
    → is_over (record config { capacity = capacity }) part values ≡ exceeds (option_map (share config) capacity) weight
over-from None config part values weight e = refl
over-from (Some capacity) config part values weight e = ap (nat_lt (share config capacity)) e

-- a part is over its share where its items weigh more than that
pub over_is : (config : Config) (part : ℕ) (items held : List HeldValue) → have_own_keys items ≡ true → Corresponds items held
    → is_over config part (map (λ h. h.value) held) ≡ exceeds (option_map (share config) config.capacity) (weight_in part items)
over_is config part items held a c = grind (arith, over-from config.capacity config part (map (λ (h : HeldValue). h.value) held) (weight_in part items) (weight-values part held ∙ same_weight part items held a c), weight-values part held, same_weight part items held a c)
