-- What stands at a place of a list, before and after it changes.
use Rattle.std.proofs.Common.{refl, sym, ap, ◌∙◌, arith, get_or, inl, inr, ◌≡◌, ◌≢◌, ℕ, zero, suc, ◌<◌, ◌⊎◌, List, [], ◌∷◌, ◌++◌, map, Some, length, slice_set}
use Rattle.std.proofs.Math.Seq.{map-set_same}
use Rattle.std.proofs.lemmas.List.{get_or-set_same, length-set, set-get_or}
use Rattle.std.proofs.lemmas.Option.{get_or_from_slice_get, none-some, same_Some, slice_get-get_or, slice_get-map, slice_get_read}
use Rattle.std.specs.List.{slice_get}
use Rattle.std.specs.Option.{option_map}

pub ext-get : {X : Type 0} (xs ys : List X) → ((i : ℕ) → slice_get xs i ≡ slice_get ys i) → xs ≡ ys
ext-get [] [] h = refl
ext-get [] (y ∷ ys) h = absurd (none-some y (h zero))
ext-get (x ∷ xs) [] h = absurd (none-some x (sym (h zero)))
ext-get (x ∷ xs) (y ∷ ys) h = ap (λ z. z ∷ xs) (same_Some x y (h zero)) ∙ ap (λ zs. y ∷ zs) (ext-get xs ys (λ i. h (suc i)))

pub at-place : {X : Type 0} (xs : List X) (i : ℕ) (x : X) → i < length xs → x ≡ get_or xs i x → slice_get xs i ≡ Some x
at-place xs i x lt is = slice_get_read xs (length xs) i x refl lt is

-- what stands at a place within
pub found-at : {X : Type 0} (xs : List X) (i : ℕ) → i < length xs → (x : X) × (slice_get xs i ≡ Some x)
found-at [] i lt = absurd (omega (arith, lt))
found-at (x ∷ xs) zero lt = (x, refl)
found-at (x ∷ xs) (suc i) lt = found-at xs i (omega (arith, lt))

pub at-replaced : {X : Type 0} (xs : List X) (i : ℕ) (x : X) → i < length xs → slice_get (slice_set xs i x) i ≡ Some x
at-replaced xs i x lt = slice_get-get_or (slice_set xs i x) i x (let e = length-set xs i x in omega arith) ∙ ap Some (get_or-set_same xs i x x lt)

pub at-other : {X : Type 0} (xs : List X) (i j : ℕ) (x : X) → i ≢ j → slice_get (slice_set xs j x) i ≡ slice_get xs i
at-other [] i j x ne = refl
at-other (y ∷ ys) zero zero x ne = absurd (ne refl)
at-other (y ∷ ys) zero (suc j) x ne = refl
at-other (y ∷ ys) (suc i) zero x ne = refl
at-other (y ∷ ys) (suc i) (suc j) x ne = at-other ys i j x (λ e. ne (ap suc e))

pub at-front : {X : Type 0} (xs : List X) (x : X) (i : ℕ) → i < length xs → slice_get (xs ++ x ∷ []) i ≡ slice_get xs i
at-front [] x i lt = absurd (omega arith)
at-front (y ∷ ys) x zero lt = refl
at-front (y ∷ ys) x (suc i) lt = at-front ys x i (omega arith)

pub at-end : {X : Type 0} (xs : List X) (x : X) → slice_get (xs ++ x ∷ []) (length xs) ≡ Some x
at-end [] x = refl
at-end (y ∷ ys) x = at-end ys x

pub front-or-end : {X : Type 0} (xs : List X) (x : X) (i : ℕ) (y : X) → slice_get (xs ++ x ∷ []) i ≡ Some y → (slice_get xs i ≡ Some y) ⊎ ((i ≡ length xs) × (y ≡ x))
front-or-end [] x zero y e = inr (refl, sym (same_Some x y e))
front-or-end [] x (suc i) y e = absurd (none-some y e)
front-or-end (z ∷ zs) x zero y e = inl e
front-or-end (z ∷ zs) x (suc i) y e = elim (front-or-end zs x i y e) [ inl h ↦ inl h | inr h ↦ inr (ap suc h.0, h.1) ]

-- all the same where it is put back
pub set-same : {X : Type 0} (xs : List X) (i : ℕ) (x : X) → slice_get xs i ≡ Some x → slice_set xs i x ≡ xs
set-same xs i x at = ap (slice_set xs i) (sym (get_or_from_slice_get xs i x x at)) ∙ set-get_or xs i x

-- all the same where what is seen of it stays
pub map-same : {A X : Type 0} (f : X → A) (xs : List X) (i : ℕ) (old new : X) → slice_get xs i ≡ Some old → f new ≡ f old → map f (slice_set xs i new) ≡ map f xs
map-same f xs i old new at e = map-set_same f xs i new old (e ∙ ap f (sym (get_or_from_slice_get xs i old old at)))

-- seen at its place
pub at-mapped : {A X : Type 0} (f : X → A) (xs : List X) (i : ℕ) (x : X) → slice_get xs i ≡ Some x → slice_get (map f xs) i ≡ Some (f x)
at-mapped f xs i x at = slice_get-map f xs i ∙ ap (option_map f) at
