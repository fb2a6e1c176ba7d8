-- The first part that has a notice.
use Rattle.std.proofs.Common.{◌≡◌, refl, ap, sym, ◌∙◌, subst, ℕ, zero, suc, ◌+◌, ◌≤◌, arith, List, [], ◌∷◌, drop, length, Option, Some, None}
use Rattle.std.specs.Prelude.{slice_get, slice_set}
use Rattle.engine_reference.specs.Calls.{without_notice}
use Rattle.engine_reference.specs.State.{State}
use Rattle.engine_reference.specs.declared.data.Notice.{Notice}
use Rattle.front_reference.specs.Wholes.{first_or, next_told, taken_or, without_told}

one_more : (n : ℕ) → suc n ≡ n + 1
one_more n = omega arith

module _ {K V : Type 0} where
  empty : (ns : List (Notice K V)) → None ≡ slice_get ns 0 → ns ≡ []
  empty [] e = refl
  empty (n ∷ ns) e = absurd (let no : ⊥ = cc in no)

  first-told : (ns : List (Notice K V)) (n : Notice K V) (other : Option (Notice K V)) → Some n ≡ slice_get ns 0 → Some n ≡ first_or ns other
  first-told [] n other e = absurd (let no : ⊥ = cc in no)
  first-told (m ∷ ns) n other e = e

module _ {K V P S R : Type 0} where
  -- the first parts have none
  abbrev pub NoneTold : ℕ → List (State K V P S R) → Type 0
  NoneTold zero ss = Unit {0}
  NoneTold (suc n) [] = Unit {0}
  NoneTold (suc n) (s ∷ ss) = (s.notices ≡ []) × NoneTold n ss

  pub nothing-taken : (s t : State K V P S R) → t ≡ without_notice s → None ≡ slice_get s.notices 0 → t ≡ s
  nothing-taken s t e none = let nil = empty s.notices none in e ∙ ap (λ ns. record s { notices = drop 1 ns }) nil ∙ ap (λ ns. record s { notices = ns }) (sym nil)

  none-suc : (n : ℕ) (ss : List (State K V P S R)) (s : State K V P S R) → slice_get ss n ≡ Some s → None ≡ slice_get s.notices 0 → NoneTold n ss → NoneTold (suc n) ss
  none-suc n [] s at none h = tt
  none-suc zero (x ∷ ss) s at none h = let same : x ≡ s = cc in (ap (λ y. y.notices) same ∙ empty s.notices none, tt)
  none-suc (suc n) (x ∷ ss) s at none h = (h.0, none-suc n ss s at none h.1)

  pub none-next : (n : ℕ) (ss : List (State K V P S R)) (s : State K V P S R) → slice_get ss n ≡ Some s → None ≡ slice_get s.notices 0 → NoneTold n ss → NoneTold (n + 1) ss
  none-next n ss s at none h = subst (λ m. NoneTold m ss) (one_more n) (none-suc n ss s at none h)

  first-taken : (ns : List (Notice K V)) (n : Notice K V) (without other : List (State K V P S R)) → Some n ≡ slice_get ns 0 → without ≡ taken_or ns without other
  first-taken [] n without other e = absurd (let no : ⊥ = cc in no)
  first-taken (m ∷ ns) n without other e = refl

  -- it stands there
  pub told : (i : ℕ) (ss : List (State K V P S R)) (s : State K V P S R) (n : Notice K V) → slice_get ss i ≡ Some s → Some n ≡ slice_get s.notices 0 → NoneTold i ss → Some n ≡ next_told ss
  told i [] s n at is h = absurd (let no : ⊥ = cc in no)
  told zero (x ∷ ss) s n at is h = let same : s ≡ x = cc in first-told x.notices n (next_told ss) (is ∙ ap (λ y. slice_get y.notices 0) same)
  told (suc i) (x ∷ ss) s n at is h = told i ss s n at is h.1 ∙ ap (λ ns. first_or ns (next_told ss)) (sym h.0)

  pub taken : (i : ℕ) (ss : List (State K V P S R)) (s t : State K V P S R) (n : Notice K V) → slice_get ss i ≡ Some s → Some n ≡ slice_get s.notices 0 → t ≡ without_notice s → NoneTold i ss → slice_set ss i t ≡ without_told ss
  taken i [] s t n at is does h = absurd (let no : ⊥ = cc in no)
  taken zero (x ∷ ss) s t n at is does h =
      let same : s ≡ x = cc in
      ap (λ y. y ∷ ss) (does ∙ ap without_notice same) ∙ first-taken x.notices n (without_notice x ∷ ss) (x ∷ without_told ss) (is ∙ ap (λ y. slice_get y.notices 0) same)
  taken (suc i) (x ∷ ss) s t n at is does h = ap (λ l. x ∷ l) (taken i ss s t n at is does h.1) ∙ ap (λ ns. taken_or ns (without_notice x ∷ ss) (x ∷ without_told ss)) (sym h.0)

  -- none has one
  pub none-told : (i : ℕ) (ss : List (State K V P S R)) → length ss ≤ i → NoneTold i ss → None ≡ next_told ss
  none-told i [] past h = refl
  none-told zero (x ∷ ss) past h = absurd (omega arith)
  none-told (suc i) (x ∷ ss) past h = none-told i ss (omega arith) h.1 ∙ ap (λ ns. first_or ns (next_told ss)) (sym h.0)

  pub none-taken : (i : ℕ) (ss : List (State K V P S R)) → length ss ≤ i → NoneTold i ss → ss ≡ without_told ss
  none-taken i [] past h = refl
  none-taken zero (x ∷ ss) past h = absurd (omega arith)
  none-taken (suc i) (x ∷ ss) past h = ap (λ l. x ∷ l) (none-taken i ss (omega arith) h.1) ∙ ap (λ ns. taken_or ns (without_notice x ∷ ss) (x ∷ without_told ss)) (sym h.0)
