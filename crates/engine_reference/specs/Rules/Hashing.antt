-- The hash of a key.
use Rattle.std.specs.Prelude.{ℕ, List}
use Rattle.std.specs.List.{fold}

-- what a hasher makes of a key: it is built, fed with what the key writes, and finished
abbrev pub hash_of_key : {K S H : Type 0} → (H → ℕ) → (H → List ℕ → H) → (S → H)
    → (K → List (List ℕ)) → S → K → ℕ
hash_of_key finish write build_hasher hash_input hasher key =
    finish (fold write (build_hasher hasher) (hash_input key))
