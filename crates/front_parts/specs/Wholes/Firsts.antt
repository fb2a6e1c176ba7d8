-- A list whose first items are changed, each by its place.
use Rattle.std.specs.Prelude.{ℕ, zero, suc, List, [], ◌∷◌}

abbrev pub changed_first : {X : Type 0} → (ℕ → X → X) → ℕ → List X → List X
changed_first F zero xs = xs
changed_first F (suc n) [] = []
changed_first F (suc n) (x ∷ xs) = F 0 x ∷ changed_first (λ k. F (suc k)) n xs
