-- Equal keys have one desk, and there is at least one.
use Rattle.std.proofs.Common.{◌≡◌, refl, ap, ℕ, ◌<◌, List, Option, Some, None, arith}
use Rattle.std.specs.List.{fold}
use Rattle.engine_reference.specs.Rules.Hashing.{hash_of_key}
use Rattle.front_reference.specs.Fronts.{part_of}
use Rattle.moka_sync.proofs.Showing.{pow_some}
use Rattle.moka_sync.specs.Spreading.{desk_count, desk_number}
use Rattle.moka_sync.specs.declared.spreading.Spread.{Spread}

pub desk_alike : {K S H : Type 0} (finish : H → ℕ) (write : H → List ℕ → H) (build_hasher : S → H) (hash_input : K → List (List ℕ)) (spread : Option (Spread S)) (x y : K) → hash_input x ≡ hash_input y
    → desk_number (hash_of_key finish write build_hasher hash_input) spread x ≡ desk_number (hash_of_key finish write build_hasher hash_input) spread y
desk_alike finish write build_hasher hash_input None x y same = refl
desk_alike finish write build_hasher hash_input (Some spread) x y same = ap (λ w. part_of spread.bits (finish (fold write (build_hasher spread.hasher) w))) same

pub some_desk : {S : Type 0} (spread : Option (Spread S)) → 0 < desk_count spread
some_desk None = omega arith
some_desk (Some spread) = pow_some spread.bits
