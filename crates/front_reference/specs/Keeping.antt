-- What the front keeps of each part, so that the laws of the reference cache hold for each of its runs.
use Rattle.std.specs.Prelude.{◌≡◌, ◌≤◌, ℕ, nat_le, Bool, true, [], length, Some}
use Rattle.engine_reference.specs.declared.data.Settings.{Settings}
use Rattle.engine_reference.specs.Records.{held_entries}
use Rattle.engine_reference.specs.Soundness.{Each}
use Rattle.engine_reference.specs.State.{State}
use Rattle.engine_reference.specs.Telling.{AreApart}
use Rattle.engine_reference.specs.RunLaws.Points.{IsInOrder}
use Rattle.engine_reference.specs.RunLaws.Sweeping.{IsTimely}
use Rattle.front_reference.specs.Closeness.{IsClose}

-- the settings with which all parts were created
pub record Common (S R : Type 0) : Type 0 where
  pub settings : Settings
  pub hasher : S
  pub rules : R

module _ {K V P S R : Type 0} where
  abbrev pub common_of : State K V P S R → Common S R
  common_of s = record { settings = s.settings; hasher = s.hasher; rules = s.rules }

  -- nothing is held, and nothing that is held has anything pending
  pub record IsBare (s : State K V P S R) : Type 0 where
    pub records : s.records ≡ []
    pub access : s.access ≡ []
    pub writes : s.writes ≡ []

  -- The last call came at this moment and step at the latest. At most this many writes are unapplied: 63 between calls, 64 before a call
  -- checks whether a run is due. Only keys that belong to the part are written to it
  pub record IsKept (limit : ℕ) (eq : K → K → Bool) (common : Common S R) (belongs : K → Bool)
      (moment step : ℕ) (s : State K V P S R) : Type 0 where
    -- tickets were sent in the order in which they were made, and none waits
    pub ordered : IsInOrder s
    pub sent : s.unsent ≡ []
    pub few : length s.writes ≤ limit
    pub made : common_of s ≡ common
    -- no key is held twice
    pub apart : AreApart eq (held_entries s.records)
    pub belong : Each (λ r. belongs r.entry.key ≡ true) s.records
    -- a part of capacity 0 takes nothing
    pub bare : common.settings.capacity ≡ Some 0 → IsBare s
    -- runs leave the access list in the order of uses, except for 300 milliseconds
    pub close : IsClose (nat_le 64 limit) moment s
    -- and the write list in the order of writes, if moments did not pass 2^63 - 1
    pub timely : moment ≤ 9223372036854775807 → IsTimely moment step s
