-- A predicate that is prepared at the step that is drawn for it.
use Rattle.std.proofs.Common.{◌≡◌, ℕ, ◌+◌, ◌<◌, ◌^◌, arith, Result, Ok, Err, IfOk, OnOk}
use Rattle.engine_reference.specs.Calls.{with_room}
use Rattle.front_reference.specs.Fronts.{Front}
use Rattle.front_reference.specs.declared.data.At.{At}
use Rattle.front_reference.specs.declared.errors.CacheError.{CacheError}
use Rattle.front_state.specs.Sharding.{DrawsForFirst, with_first_part}
use Rattle.rand_core.specs.Stream.{Stream}
use Rattle.sync_desk.specs.Drawing.{IsDrawn}
use Rattle.sync_desk.specs.Sharding.{PreparesAsDrawn}

pub prepares_as_drawn : {K V P S R : Type 0} (old new : Front K V P S R) (moment : ℕ) (at : At) (drawn left : Stream) (r : Result ℕ CacheError) → IsDrawn moment old at → at.step < 2 ^ 64
    → OnOk r (new ≡ with_first_part with_room old) → IfOk r (λ id. DrawsForFirst drawn left id old) → IfOk r (λ id. PreparesAsDrawn drawn left id old new)
prepares_as_drawn old new moment at drawn left (Ok id) is low room draws = record { room = room; draws = draws; steps = let e = is.1 in omega arith }
prepares_as_drawn old new moment at drawn left (Err e) is low room draws = tt
