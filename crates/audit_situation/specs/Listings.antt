-- What is kept by number.
use Rattle.std.specs.Prelude.{ℕ, Bool, true, not, ◌&&◌, ◌==◌, List, [], ◌∷◌, if◌then◌else◌}
use Rattle.std.specs.List.{list_all}

-- none of the entries has this number
abbrev pub is_new_number : {X : Type 0} → ℕ → List (ℕ × X) → Bool
is_new_number n es = list_all (λ e. not (e.0 == n)) es

-- each is at its own number, and no number occurs twice
abbrev pub is_listing : {X : Type 0} → (X → ℕ) → List (ℕ × X) → Bool
is_listing number [] = true
is_listing number (e ∷ es) = (e.0 == number e.1) && is_new_number e.0 es && is_listing number es

-- no two are the same
abbrev pub are_apart : {X : Type 0} → (X → X → Bool) → List X → Bool
are_apart alike [] = true
are_apart alike (x ∷ xs) = list_all (λ y. not (alike x y)) xs && are_apart alike xs

-- one more in its place, before the first whose number it comes before
abbrev pub put_ranked : {X : Type 0} → (ℕ → ℕ → Bool) → (X → ℕ) → X → List X → List X
put_ranked before number x [] = x ∷ []
put_ranked before number x (y ∷ ys) =
    if before (number x) (number y) then x ∷ y ∷ ys else y ∷ put_ranked before number x ys

-- all in the order of their numbers
abbrev pub ranked : {X : Type 0} → (ℕ → ℕ → Bool) → (X → ℕ) → List X → List X
ranked before number [] = []
ranked before number (x ∷ xs) = put_ranked before number x (ranked before number xs)
