-- Keys that names stand for.
use Rattle.std.specs.Prelude.{◌≡◌, Bool, true}

-- a key equals no other
abbrev pub IsNamedAlone : {K : Type 0} → (K → K → Bool) → K → Type 0
IsNamedAlone {K} eq key = (other : K) → eq key other ≡ true → other ≡ key
