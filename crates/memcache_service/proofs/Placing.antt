-- A byte put into a row of bytes.
use Rattle.std.proofs.Common.{◌≡◌, ℕ, zero, suc, ◌<◌, List, [], ◌∷◌, length, drop, refl, arith}
use Rattle.std.specs.Prelude.{slice_set}

-- from its place on
pub drop-set : (xs : List ℕ) (k x : ℕ) → k < length xs → drop k (slice_set xs k x) ≡ x ∷ drop (suc k) xs
drop-set [] k x low = absurd (omega (arith, low))
drop-set (y ∷ ys) zero x low = refl
drop-set (y ∷ ys) (suc k) x low = drop-set ys k x (omega (arith, low))
