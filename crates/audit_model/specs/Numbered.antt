-- What is kept by number.
use Rattle.std.specs.Prelude.{ℕ, ◌==◌, if◌then◌else◌}

-- changes what is of that number
abbrev pub changed_numbered : {X : Type 0} → (X → ℕ) → ℕ → (X → X) → X → X
changed_numbered number n f x = if number x == n then f x else x
