-- Where a connection has closed.
use Rattle.std.proofs.Common.{◌≡◌, List, [], ◌∷◌, ◌++◌, Option, None, Some, refl}
use Rattle.std.specs.List.{last_or}
use Rattle.cache_run.specs.Driver.Exchanges.{Exchange, HaveClosed}

-- the last of several does not depend on those before it
last-more : {A : Type 0} (o : Option A) (xs : List A) (y : A) (ys : List A) → last_or o (xs ++ y ∷ ys) ≡ last_or None (y ∷ ys)
last-more o [] y ys = refl
last-more o (x ∷ xs) y ys = last-more (Some x) xs y ys

-- it had closed after the last of several
pub closed-more : (xs ys : List Exchange) → HaveClosed ys → HaveClosed (xs ++ ys)
closed-more xs [] closed = absurd closed
closed-more xs (y ∷ ys) closed = rw (last-more None xs y ys) closed
