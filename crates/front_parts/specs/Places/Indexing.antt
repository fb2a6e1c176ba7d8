-- Turns by number, and their numbers by the hashes of their keys.
use Rattle.std.specs.Prelude.{◌≡◌, ℕ, ◌==◌, ◌&&◌, Bool, false, List, Option, Some, None, map}
use Rattle.std.specs.List.{AllByRecursion}
use Rattle.std.specs.List.Sorted.{IsStrictlySortedBy}
use Rattle.std.specs.BTreeSet.{BTreeSet, contains}
use Rattle.std.specs.Map.{keys_of}
use Rattle.std.specs.Ordering.{nat_cmp, ordering_then}
use Rattle.std.specs.declared.cmp.Ordering.{Ordering}
use Rattle.front_reference.specs.Fronts.{same_kind, turn_at}
use Rattle.front_reference.specs.declared.data.OpenTurn.{OpenTurn}
use Rattle.front_reference.specs.declared.data.TurnKind.{TurnKind}

-- by the hash, and then by the number
abbrev pub pair_cmp : ℕ × ℕ → ℕ × ℕ → Ordering
pair_cmp x y = ordering_then (nat_cmp x.0 y.0) (nat_cmp x.1 y.1)

module _ {K : Type 0} where
  -- there is a turn, and it is of that kind and key
  abbrev pub is_of : (K → K → Bool) → TurnKind → K → Option (OpenTurn K) → Bool
  is_of eq kind key None = false
  is_of eq kind key (Some t) = same_kind t.kind kind && eq key t.key

  -- there is one, and its key has that hash
  abbrev pub has_hash : ℕ → Option (OpenTurn K) → Bool
  has_hash hash None = false
  has_hash hash (Some t) = t.hash == hash

  abbrev pub turns_of : List (ℕ × OpenTurn K) → List (OpenTurn K)
  turns_of es = map (λ e. e.1) es

  -- each stands at its number, and the set has its hash with its number, and nothing else
  pub record AreIndexed (es : List (ℕ × OpenTurn K)) (hashes : BTreeSet (ℕ × ℕ)) : Type 0 where
    pub ordered : IsStrictlySortedBy nat_cmp (keys_of es)
    pub own : AllByRecursion (λ (e : ℕ × OpenTurn K). e.0 ≡ e.1.number) es
    pub hashed : (hash number : ℕ) → contains pair_cmp hashes (hash, number)
        ≡ has_hash hash (turn_at (turns_of es) number)
