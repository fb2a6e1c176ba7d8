-- What is removed before a turn is given up.
use Rattle.std.proofs.Common.{◌≡◌, ℕ, Option, Result, Ok, Err, IfOk, OnOk}
use Rattle.front_reference.specs.Fronts.{Front}
use Rattle.front_reference.specs.declared.errors.CacheError.{CacheError}
use Rattle.front_state.specs.Calls.{Ways, held_value_in}
use Rattle.sync_desk.specs.Drawing.{GivesUp, RemovesAsDrawn, TakesOutAsDrawn}

pub taken_out : {K V P S R : Type 0} (ways : Ways K V P S R) (moment number : ℕ) (key : K) (old mid new : Front K V P S R) (r : Result (Option V) CacheError)
    → IfOk r (λ value. value ≡ held_value_in ways old key) → OnOk r (RemovesAsDrawn ways moment key old mid) → GivesUp moment number mid new → IfOk r (TakesOutAsDrawn ways moment number key old new)
taken_out ways moment number key old mid new (Ok value) is does gives = (mid, does, is, gives)
taken_out ways moment number key old mid new (Err e) is does gives = tt
