-- The timers of a wheel, and the slab that leads from a timer's name to its key.
use Rattle.std.specs.Prelude.{◌≡◌, ◌≢◌, ℕ, ◌+◌, ◌*◌, ◌^◌, ◌<◌, List, [], ◌∷◌, ◌++◌, length, Some}
use Rattle.slab.specs.Slab.{Slab, get, slab_len}
use Rattle.policy_queue.specs.declared.timers.array.Timer.{Timer}
use Rattle.policy_queue.specs.Timers.Timers.{moved}

-- the number by which timers are in order
abbrev pub key_at : ℕ → ℕ → ℕ
key_at placed serial = placed * 18446744073709551616 + serial

abbrev pub key_of : Timer → ℕ
key_of t = key_at t.placed t.id.serial

-- no timer has this serial
abbrev pub LacksSerial : ℕ → List Timer → Type 0
LacksSerial serial [] = Unit {0}
LacksSerial serial (t ∷ rest) = (t.id.serial ≢ serial) × LacksSerial serial rest

-- each timer has a serial of its own
abbrev pub SerialsDiffer : List Timer → Type 0
SerialsDiffer [] = Unit {0}
SerialsDiffer (t ∷ rest) = (t.id.serial < 2 ^ 64) × LacksSerial t.id.serial rest × SerialsDiffer rest

-- each timer's serial is below the next one
abbrev pub AreBelow : ℕ → List Timer → Type 0
AreBelow next [] = Unit {0}
AreBelow next (t ∷ rest) = (t.id.serial < next) × AreBelow next rest

-- what the slab has for a timer: when it was placed, and its serial
abbrev pub stored_of : Timer → ℕ × ℕ
stored_of t = (t.placed, t.id.serial)

-- the slab says for each timer's name which key it has
abbrev pub AreStored : Slab (ℕ × ℕ) → List Timer → Type 0
AreStored slots [] = Unit {0}
AreStored slots (t ∷ rest) = (get slots t.id.slot ≡ Some (stored_of t)) × AreStored slots rest

-- timers and slab fit together
pub record IsArranged (timers : List Timer) (slots : Slab (ℕ × ℕ)) : Type 0 where
  pub apart : SerialsDiffer timers
  pub stored : AreStored slots timers
  pub counted : slab_len slots ≡ length timers

-- the timers of a wheel
pub record IsWheel (timers : List Timer) (slots : Slab (ℕ × ℕ)) (next : ℕ) : Type 0 where
  pub arranged : IsArranged timers slots
  pub below : AreBelow next timers

-- a timer, the one in the place with this number, was moved to another time
pub record MovesTo (k : ℕ) (old new : List Timer) (t : Timer) (time generation : ℕ) : Type 0 where
  pub before : List Timer
  pub after : List Timer
  pub first : k ≡ 0 → before ≡ []
  pub was : old ≡ before ++ t ∷ after
  pub low : List Timer
  pub high : List Timer
  pub others : before ++ after ≡ low ++ high
  pub is : new ≡ low ++ moved t time generation ∷ high
