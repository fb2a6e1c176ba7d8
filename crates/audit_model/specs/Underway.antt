-- What is kept of the loads under way beside them: their numbers by key, and by the connections that wait.
use Rattle.std.specs.Prelude.{◌≡◌, ◌≤◌, ◌==◌, ℕ, Bool, true, false, List, Option, Some, All}
use Rattle.std.specs.List.{list_any}
use Rattle.std.specs.Option.{option_map_or}
use Rattle.std.specs.BTreeMap.{BTreeMap, get_by}
use Rattle.std.specs.Cmp.Lexicographic.{slice_cmp}
use Rattle.std.specs.Ordering.{nat_cmp}
use Rattle.std.specs.declared.vec.Vec.{Vec}
use Rattle.std.specs.declared.alloc.Global.{Global}
use Rattle.audit_model.specs.Bytewise.{same}
use Rattle.audit_model.specs.Situation.{PendingLoad}

-- numbers of loads by key
abbrev pub Keys : Type 0
Keys = BTreeMap (Vec ℕ Global) ℕ

-- the number at a key
abbrev pub number_at : List ℕ → Keys → Option ℕ
number_at key keys = get_by (λ k. slice_cmp nat_cmp key k.items) keys

-- numbers of loads by the connection that waits
abbrev pub Joined : Type 0
Joined = BTreeMap ℕ ℕ

-- the load that a connection waits for
abbrev pub load_of : ℕ → Joined → Option ℕ
load_of conn joined = get_by (nat_cmp conn) joined

-- the load has that number
abbrev pub has_number : Option ℕ → PendingLoad → Bool
has_number number load = option_map_or (λ n. load.number == n) number false

-- the load's number stands at its key, and at no other
abbrev pub IsKeyed : Keys → PendingLoad → Type 0
IsKeyed keys load = (key : List ℕ) → same load.key key ≡ has_number (number_at key keys) load

-- the load's number stands at each connection that waits for it
abbrev pub StandsAtWaiters : Joined → PendingLoad → Type 0
StandsAtWaiters joined load =
    (conn : ℕ) → list_any (λ n. n == conn) load.waiting ≡ true
    → load_of conn joined ≡ Some load.number

-- the numbers are where they have to be, and none is above the last
pub record KeepsNumbers (last : ℕ) (keys : Keys) (joined : Joined) (loads : List PendingLoad) :
    Type 0 where
  pub past : (key : List ℕ) (n : ℕ) → number_at key keys ≡ Some n → n ≤ last
  pub keyed : All (IsKeyed keys) loads
  pub awaited : All (StandsAtWaiters joined) loads
