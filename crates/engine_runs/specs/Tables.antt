-- For how many hashes the sketch's table is made.
use Rattle.std.specs.Prelude.{◌≡◌, ℕ, true, Some}
use Rattle.engine_reference.specs.Admission.{sketch_room}
use Rattle.engine_reference.specs.Records.{admitted_number, admitted_weight}
use Rattle.engine_reference.specs.Runs.{lacks_table}
use Rattle.engine_reference.specs.State.{State}

module _ {K V P S R : Type 0} where
  -- the table is to be made for this many hashes
  pub record LacksTableFor (hashes : ℕ) (s : State K V P S R) : Type 0 where
    pub capacity : ℕ
    pub is_set : s.settings.capacity ≡ Some capacity
    pub lacks : lacks_table s ≡ true
    pub room : hashes ≡ sketch_room capacity (admitted_number s.records) (admitted_weight s.records)
