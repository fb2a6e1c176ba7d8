-- What a part weighs where a newcomer has taken its key's place.
use Rattle.std.proofs.Common.{inr, inl, ◌≡◌, refl, ap, ◌∙◌, sym, ℕ, ◌+◌, ◌-◌, ◌≤◌, ◌&&◌, List, [], ◌∷◌, map, Some, arith, Result, Ok, Err}
use Rattle.std.specs.Prelude.{is_some, IfOk}
use Rattle.std.specs.List.{find}
use Rattle.std.specs.Option.{option_map_or}
use Rattle.std.proofs.lemmas.Simd.{map-map}
use Rattle.audit_model.specs.Bytewise.{same}
use Rattle.audit_model.specs.Commands.{Deed}
use Rattle.audit_model.specs.History.{Value}
use Rattle.audit_model.specs.Notes.{is_over, just_accepted, overfills}
use Rattle.audit_model.specs.Situation.{HeldValue, candidate_at}
use Rattle.audit_model.specs.Values.{without_key}
use Rattle.audit_model.specs.declared.config.Config.{Config}
use Rattle.audit_situation.specs.Held.Weights.{weight_if_in, weight_of_part, values_of}
use Rattle.audit_situation.proofs.held.Weighing.{weight-cons, weight-push}
use Rattle.std.proofs.lemmas.Bool.{cases_Bool}

swapped : (a w x y : ℕ) → a + x ≡ y → a + (w + x) ≡ w + y
swapped a w x y e = omega arith

-- the key's first value, and the others
pub without-weighs : (key : List ℕ) (part : ℕ) (hs : List HeldValue)
    → option_map_or (weight_if_in part) (find (λ h. same key h.value.key) hs) 0 + weight_of_part part (without_key (λ v. v.key) key (values_of hs)) ≡ weight_of_part part (values_of hs)
without-weighs key part [] = refl
without-weighs key part (h ∷ hs) =
    (elim (cases_Bool (same key h.value.key)) [ inl is ↦ rw is | inr is ↦ rw is (ap (λ n. option_map_or (weight_if_in part) (find (λ k. same key k.value.key) hs) 0 + n) (weight-cons part h.value (without_key (λ v. v.key) key (values_of hs))) ∙ swapped _ (weight_if_in part h) _ (weight_of_part part (values_of hs)) (without-weighs key part hs)) ]) ∙ sym (weight-cons part h.value (values_of hs))

-- the same by numbers
pub enough : (key : List ℕ) (part older : ℕ) (hs : List HeldValue) → older ≡ option_map_or (weight_if_in part) (find (λ h. same key h.value.key) hs) 0 → older ≤ weight_of_part part (values_of hs)
enough key part older hs e = let w = without-weighs key part hs in omega arith

pub accepted-weighs : (newcomer : HeldValue) (part older own all weight : ℕ) (hs : List HeldValue)
    → older ≡ option_map_or (weight_if_in part) (find (λ h. same newcomer.value.key h.value.key) hs) 0 → own ≡ weight_if_in part newcomer → all ≡ weight_of_part part (values_of hs)
    → weight ≡ (all - older) + own → weight ≡ weight_of_part part (just_accepted (values_of hs) (Some newcomer.value))
accepted-weighs newcomer part older own all weight hs e f g is =
    let w = without-weighs newcomer.value.key part hs in
    let p = weight-push part (without_key (λ v. v.key) newcomer.value.key (values_of hs)) newcomer.value in
    omega arith

-- which parts are over their share, where a step accepts a newcomer
pub overfilled-some : (config : Config) (now : ℕ) (hs : List HeldValue) (deed : Deed) (value : Value) (part : ℕ) → deed.value ≡ Some value
    → is_over config part (just_accepted (values_of hs) (Some value)) ≡ overfills config (map (candidate_at config now) hs) deed part
overfilled-some config now hs deed value part e =
    ap (λ vs. is_over config part (just_accepted vs (Some value))) (sym (map-map (λ c. c.value) (candidate_at config now) hs))
    ∙ sym (ap (λ o. is_some o && is_over config part (just_accepted (map (λ c. c.value) (map (candidate_at config now) hs)) o)) e)

-- what holds of a result that is there
pub if-ok : {T E : Type 0} {P Q : T → Type 0} (r : Result T E) → ((x : T) → P x → Q x) → IfOk r P → IfOk r Q
if-ok (Ok x) f p = f x p
if-ok (Err e) f p = tt
