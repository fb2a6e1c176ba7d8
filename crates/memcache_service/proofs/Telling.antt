-- Texts that were written one behind the other.
use Rattle.std.proofs.Common.{◌≡◌, ◌∙◌, ℕ, List, ◌++◌, Result, Ok, Err, OnOk, ap}
use Rattle.std.proofs.lemmas.List.{append_assoc}

behind : (old mid new first second : List ℕ) → mid ≡ old ++ first → new ≡ mid ++ second → new ≡ old ++ (first ++ second)
behind old mid new first second is next = next ∙ ap (λ z. z ++ second) is ∙ append_assoc old first second

-- two
pub two_behind : {E : Type 0} (r : Result (Unit {0}) E) (old mid new first second : List ℕ) → mid ≡ old ++ first → OnOk r (new ≡ mid ++ second) → OnOk r (new ≡ old ++ (first ++ second))
two_behind (Ok x) old mid new first second is last = behind old mid new first second is last
two_behind (Err e) old mid new first second is last = tt

-- five
pub five_behind : {E : Type 0} (r : Result (Unit {0}) E) (old a b c d new t u v w x : List ℕ) → a ≡ old ++ t → b ≡ a ++ u → c ≡ b ++ v → d ≡ c ++ w → OnOk r (new ≡ d ++ x) → OnOk r (new ≡ old ++ (t ++ u ++ v ++ w ++ x))
five_behind r old a b c d new t u v w x first second third fourth last =
    two_behind r old d new (t ++ u ++ v ++ w) x (behind old c d (t ++ u ++ v) w (behind old b c (t ++ u) v (behind old a b t u first second) third) fourth) last
