-- A predicate in two halves, at the moments and steps that they draw.
use Rattle.std.specs.Prelude.{◌≡◌, ◌+◌, ◌<◌, ◌^◌, ℕ}
use Rattle.engine_reference.specs.Calls.{registered, with_room}
use Rattle.front_reference.specs.Fronts.{Front, passed}
use Rattle.front_reference.specs.declared.data.At.{At}
use Rattle.front_state.specs.Sharding.{DrawsForFirst, with_first_part}
use Rattle.rand_core.specs.Stream.{Stream}
use Rattle.sync_desk.specs.Drawing.{IsDrawn}

module _ {K V P S R : Type 0} where
  -- there is room for a predicate, an identifier that is drawn from a stream and not registered, and a step for it
  pub record PreparesAsDrawn (drawn left : Stream) (id : ℕ) (old new : Front K V P S R) : Type 0 where
    pub room : new ≡ with_first_part with_room old
    pub draws : DrawsForFirst drawn left id old
    pub steps : old.step + 1 < 2 ^ 64

  -- the predicate is registered in that room, for all values that were written before
  abbrev pub CommitsAsDrawn : (moment id : ℕ) → P → Front K V P S R → Front K V P S R → Type 0
  CommitsAsDrawn moment id predicate old new =
      (at : At) × IsDrawn moment old at
      × (new ≡ passed at.now at.step (with_first_part
      (registered (record { id = id; predicate = predicate; step = at.step })) old))
