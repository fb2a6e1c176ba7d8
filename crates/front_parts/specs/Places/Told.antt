-- The oldest notice of the part at a place.
use Rattle.std.specs.Prelude.{ℕ, zero, suc, List, [], ◌∷◌, Option, None, slice_get}
use Rattle.engine_reference.specs.Calls.{without_notice}
use Rattle.engine_reference.specs.State.{State}
use Rattle.engine_reference.specs.declared.data.Notice.{Notice}

module _ {K V P S R : Type 0} where
  -- there is none where there is no such part
  abbrev pub told_at : (place : ℕ) → List (State K V P S R) → Option (Notice K V)
  told_at place [] = None
  told_at zero (s ∷ ss) = slice_get s.notices 0
  told_at (suc place) (s ∷ ss) = told_at place ss

  -- the parts without it
  abbrev pub without_told_at : (place : ℕ) → List (State K V P S R) → List (State K V P S R)
  without_told_at place [] = []
  without_told_at zero (s ∷ ss) = without_notice s ∷ ss
  without_told_at (suc place) (s ∷ ss) = s ∷ without_told_at place ss
