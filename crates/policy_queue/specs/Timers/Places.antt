-- The places of timers, in rising order of their keys, with spare ones between them.
use Rattle.std.specs.Prelude.{◌≡◌, ◌≢◌, ℕ, ◌+◌, ◌<◌, ◌≤◌, Bool, true, false, List, [], ◌∷◌, ◌++◌, length, drop, slice_index_or}
use Rattle.policy_base.specs.declared.name.CacheRegion.TheVariants.{Other}
use Rattle.policy_base.specs.declared.name.NodeId.{NodeId}
use Rattle.policy_queue.specs.declared.timers.array.Timer.{Timer}
use Rattle.policy_queue.specs.declared.timers.places.Place.{Place}
use Rattle.policy_queue.specs.Timers.Array.{key_at, key_of}

-- a place
abbrev pub ThePlace : Type 0
ThePlace = Place

-- the timer in a place
abbrev pub timer_at : Place → Timer
timer_at p =
    record {
      placed = p.placed;
      id = record { queue = Other; serial = p.serial; slot = p.slot };
      node = record { entry_info = p.entry; expiry_gen = p.expiry_gen };
    }

-- a place's key
abbrev pub key_in : Place → ℕ
key_in p = key_at p.placed p.serial

-- what the keys before a place are below: its own, and one more at a spare place
abbrev pub height_at : Bool → ℕ → ℕ
height_at true key = key
height_at false key = key + 1

abbrev pub height_in : Place → ℕ
height_in p = height_at p.is_taken (key_in p)

abbrev pub with_timer : Bool → Timer → List Timer → List Timer
with_timer true t ts = t ∷ ts
with_timer false t ts = ts

-- the timers in these places
abbrev pub taken : List Place → List Timer
taken [] = []
taken (p ∷ ps) = with_timer p.is_taken (timer_at p) (taken ps)

-- these places may come after one with this key
abbrev pub AreAbove : ℕ → List Place → Type 0
AreAbove low [] = Unit {0}
AreAbove low (p ∷ ps) = (low < height_in p) × AreAbove low ps

-- keys rise, to a taken place strictly
abbrev pub IsSpread : List Place → Type 0
IsSpread [] = Unit {0}
IsSpread (p ∷ ps) = AreAbove (key_in p) ps × IsSpread ps

-- all keys are below this one
abbrev pub AreUnder : ℕ → List Place → Type 0
AreUnder high [] = Unit {0}
AreUnder high (p ∷ ps) = (key_in p < high) × AreUnder high ps

-- no key is below this one
abbrev pub AreFrom : ℕ → List Place → Type 0
AreFrom low [] = Unit {0}
AreFrom low (p ∷ ps) = (low ≤ key_in p) × AreFrom low ps

-- no timer has this key
abbrev pub LacksKey : ℕ → List Timer → Type 0
LacksKey key [] = Unit {0}
LacksKey key (t ∷ ts) = (key_of t ≢ key) × LacksKey key ts

-- the first place, if any, is taken
abbrev pub StartsTaken : List Place → Type 0
StartsTaken [] = Unit {0}
StartsTaken (p ∷ ps) = p.is_taken ≡ true

-- the place with this number is spare
abbrev pub IsSpare : List Place → ℕ → Type 0
IsSpare ps k = (k < length ps) × ((d : Place) → (slice_index_or ps k d).is_taken ≡ false)

-- there is a timer in the place with this number
abbrev pub IsTaken : List Place → ℕ → Type 0
IsTaken ps k = (k < length ps) × ((d : Place) → (slice_index_or ps k d).is_taken ≡ true)

-- there is a timer with this name in the place with this number
abbrev pub IsNamed : List Place → NodeId → ℕ → Type 0
IsNamed ps id k =
    (k < length ps) × ((d : Place) → ((slice_index_or ps k d).is_taken ≡ true)
    × ((timer_at (slice_index_or ps k d)).id ≡ id))

-- a timer was added
pub record Comes (old new : List Timer) (t : Timer) : Type 0 where
  pub before : List Timer
  pub after : List Timer
  pub was : old ≡ before ++ after
  pub is : new ≡ before ++ t ∷ after

-- a timer was removed: the one in the place with this number
pub record Goes (k : ℕ) (old new : List Timer) (t : Timer) : Type 0 where
  pub before : List Timer
  pub after : List Timer
  pub first : k ≡ 0 → before ≡ []
  pub was : old ≡ before ++ t ∷ after
  pub is : new ≡ before ++ after

-- this timer is in the first place
abbrev pub IsFirst : List Place → Timer → Type 0
IsFirst [] t = ⊥
IsFirst (p ∷ ps) t = (p.is_taken ≡ true) × (t ≡ timer_at p)

-- the places from the front on are in order, and the first is taken
pub record IsRow (front : ℕ) (places : List Place) : Type 0 where
  pub within : front ≤ length places
  pub spread : IsSpread (drop front places)
  pub starts : StartsTaken (drop front places)

-- the places, how many fit without allocating, and how many of those after the last
pub record Spread : Type 0 where
  pub places : List Place
  pub capacity : ℕ
  pub behind : ℕ
