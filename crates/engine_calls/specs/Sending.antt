-- Writes that go into the queue in the call that makes them.
use Rattle.std.specs.Prelude.{◌≡◌, ℕ, ◌<◌, Bool, if◌then◌else◌, [], length}
use Rattle.engine_reference.specs.Calls.{sent}
use Rattle.engine_reference.specs.State.{State}

module _ {K V P S R : Type 0} where
  -- each ticket was sent, and the queue has room for one more write
  pub record SendsAll (s : State K V P S R) : Type 0 where
    pub sent_all : s.unsent ≡ []
    pub room : length s.writes < 128

  -- the write of a ticket goes into the queue at once, or waits to be sent
  abbrev pub sent_if : Bool → ℕ → State K V P S R → State K V P S R
  sent_if at_once ticket s = if at_once then sent ticket s else s
