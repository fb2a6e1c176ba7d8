-- Loads under way by number and by key.
use Rattle.std.specs.Prelude.{◌≡◌, ℕ, ◌==◌, ◌&&◌, nat_lt, is_some, true, Bool, List, [], ◌∷◌, map, Option, Some}
use Rattle.std.specs.List.{find, list_all}
use Rattle.std.specs.Option.{option_map}
use Rattle.audit_model.specs.Bytewise.{same}
use Rattle.audit_model.specs.Situation.{PendingLoad}
use Rattle.std.specs.declared.cmp.Reverse.{Reverse}
use Rattle.audit_model.specs.Underway.{Keys, number_at}
use Rattle.cache_commands.specs.Loads.Keys.{pending_load}
use Rattle.cache_commands.specs.declared.loads.load.Load.{Load}

-- the load of the key that is under way
abbrev pub load_with_key : List ℕ → List PendingLoad → Option ℕ
load_with_key key loads = option_map (λ load. load.number) (find (λ load. same load.key key) loads)

-- the load under way with this number
abbrev pub load_numbered : ℕ → List PendingLoad → Option PendingLoad
load_numbered number loads = find (λ load. load.number == number) loads

-- they have numbers below this one
abbrev pub are_below : ℕ → List PendingLoad → Bool
are_below number loads = list_all (λ load. nat_lt load.number number) loads

-- each has a number below those before it
abbrev pub are_falling : List PendingLoad → Bool
are_falling [] = true
are_falling (load ∷ loads) = are_below load.number loads && are_falling loads

-- loads by their numbers, the highest first
abbrev pub NumberedLoads : Type 0
NumberedLoads = List (Reverse ℕ × Load)

-- each is at its own number
abbrev pub have_own_numbers : NumberedLoads → Bool
have_own_numbers entries = list_all (λ e. e.0.0 == e.1.number) entries

-- the loads, with those that wait for them
abbrev pub loads_of : NumberedLoads → List PendingLoad
loads_of entries = map (λ e. pending_load e.1) entries

-- each number at a key is one of a load under way
abbrev pub AreUnderWay : Keys → List PendingLoad → Type 0
AreUnderWay keys loads =
    (key : List ℕ) (n : ℕ) → number_at key keys ≡ Some n → is_some (load_numbered n loads) ≡ true

-- the same numbers are at the same keys
abbrev pub SameKeys : Keys → Keys → Type 0
SameKeys old new = (key : List ℕ) → number_at key new ≡ number_at key old
