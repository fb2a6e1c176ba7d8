-- What a look-up shows without a clone.
use Rattle.std.specs.Prelude.{◌≡◌, Option}
use Rattle.std.specs.Borrow.{Bor, MutBor}
use Rattle.std.specs.Fn.{Once}
use Rattle.std.specs.Option.{option_map}

-- a call was passed a value, if there is one, and the value behind a `&mut`; it returned this, and left that there
pub record IsShown {F V O A : Type 0}
    (see : Once F (Option (Bor V) × (MutBor O × Unit {0})) (A × (MutBor O × Unit {0}))) (f : F)
    (value : Option V) (old : O) (answer : A) (new : O) : Type 0 where
  pub found : Option (Bor V)
  pub is : option_map (λ (b : Bor V). b.now) found ≡ value
  pub shown : MutBor O
  pub shows : shown.now ≡ old
  pub left : MutBor O
  pub met : see.post f (found, (shown, tt)) (answer, (left, tt))
  pub leaves : left.now ≡ new
