-- What the answer of a call with closures rests on: what was done under the lock of its key.
use Rattle.std.specs.Prelude.{◌≡◌, ◌⊎◌, ℕ, Bool, true, false, Option, Some, None, Result, Ok, Err, is_some, ⊤}
use Rattle.std.specs.declared.alloc.AllocError.{AllocError}
use Rattle.front_parts.specs.Access.Answering.{Decides, Gives, IsOptionOf, IsOutcomeOf, IsResultOf, IsValueOf, done_as, made_option, made_result}
use Rattle.front_reference.specs.Fronts.{turn_at}
use Rattle.front_reference.specs.Parts.{computed_as, op_decided}
use Rattle.front_reference.specs.declared.data.Computed.{Computed}
use Rattle.front_reference.specs.declared.data.Made.{Made}
use Rattle.front_reference.specs.declared.data.Made.TheVariants as makes
use Rattle.front_reference.specs.declared.data.Op.{Op}
use Rattle.front_reference.specs.declared.data.Op.TheVariants as op
use Rattle.front_reference.specs.declared.data.TurnKind.{TurnKind}
use Rattle.front_reference.specs.declared.data.TurnKind.TheVariants.{Optionally, Try, With}
use Rattle.front_reference.specs.declared.data.TurnStart.{TurnStart}
use Rattle.front_reference.specs.declared.data.TurnStart.TheVariants as state
use Rattle.front_state.specs.Calls.{Ways}
use Rattle.moka_sync.specs.Holding.{DidGet, DoneUnderLock, Guarded}
use Rattle.moka_sync.specs.declared.turns.MakingStart.{MakingStart}
use Rattle.moka_sync.specs.declared.turns.MakingStart.TheVariants.{Answered, Led, GivenUp}
use Rattle.moka_sync.specs.declared.turns.Passing.{Passing}
use Rattle.moka_sync.specs.declared.turns.Passing.TheVariants.{Never, Unasked, Said}
use Rattle.sync_desk.specs.Drawing.{BeginsAsDrawn, CoalescesAsDrawn, ComputesAsDrawn, FinishesAsDrawn, GivesUp, TakesOutAsDrawn}
use Rattle.sync_desk.specs.Slots.Endings.{suits}
use Rattle.sync_desk.specs.Slots.Waiting.{SlotsByNumber, if_of, told_of, turn_by_number}
use Rattle.sync_desk.specs.declared.slots.slot.Ending.TheVariants.{Done}
use Rattle.sync_desk.specs.declared.turns.ComputeStart.TheVariants as computing

-- no visible value may be passed over
abbrev pub NotPassed : (passed : Bool) → Type 0
NotPassed passed = passed ≡ false

-- whether it is known that none is
abbrev pub is_never : Passing → Bool
is_never Never = true
is_never other = false

-- a visible value may be passed over, by what is known of whether `replace_if` passes it: `replace_if` returned true for some value
abbrev pub MayPass : {V : Type 0} → Passing → (Returns : V → Bool → Type 0) → (passed : Bool) → Type 0
MayPass Never Returns passed = NotPassed passed
MayPass Unasked Returns passed = passed ≡ true → (asked : _) × Returns asked true
MayPass (Said step said) Returns passed =
    passed ≡ true → (said ≡ true) ⊎ ((asked : _) × Returns asked true)

-- at some moment, in one hold of the lock of the desk with this number, a turn of a kind had ended with this, as those that wait are told
pub record ToldUnderLock {V F : Type 0} (lock : ℕ) (kind : TurnKind) (number : ℕ) (made : Made V F)
    : Type 0 where
  pub desk : ℕ
  pub slots : SlotsByNumber V F
  pub numbered : desk ≡ lock
  pub told : Done made ≡ told_of (if_of kind (turn_by_number number slots))

-- what was waited for was given up, or ended with a result that its kind may have
abbrev pub HasReceived : {V F : Type 0} → (lock : ℕ) → TurnKind → (number : ℕ) → Option (Made V F) → Type 0
HasReceived lock kind number None = Unit {0}
HasReceived lock kind number (Some made) =
    (suits kind made ≡ true) × ToldUnderLock lock kind number made

module _ {K V P S R : Type 0} where
  -- the turn with a number was given up
  pub record DidGiveUp (number : ℕ) (old new : Guarded K V P S R) : Type 0 where
    pub gives_up : GivesUp old.moment number old.state new.state
    pub rest : new ≡ record old { state = new.state }

module _ {K V P S R : Type 0} (ways : Ways K V P S R) where
  -- a call that makes a value began so: its key was looked up, where a visible value may have been passed over, and then, if none was
  -- found, a turn is waited for or led
  pub record DidBegin (kind : TurnKind) (key : K) (May : Bool → Type 0) (start : TurnStart V)
      (old new : Guarded K V P S R) : Type 0 where
    pub begins : BeginsAsDrawn ways old.moment kind key (λ seen passed. May passed)
        old.state new.state start
    pub rest : new ≡ record old { state = new.state }

  -- the turn with a number, which was under way, ended with what was made; a value was inserted under the turn's key
  pub record DidFinish {F : Type 0} (number : ℕ) (made : Made V F) (old new : Guarded K V P S R) :
      Type 0 where
    pub known : is_some (turn_at old.state.turns number) ≡ true
    pub ends : FinishesAsDrawn ways old.moment number made old.state new.state
    pub rest : new ≡ record old { state = new.state; writes = new.writes }

  -- the visible value of a key was returned, or what was made in this hold, which was inserted if it is a value
  pub record DidCoalesce {F : Type 0} (key : K) (Ignores : V → Bool → Type 0)
      (Makes : Result (Made V F) AllocError → Type 0) (answer : Made V F × Bool)
      (old new : Guarded K V P S R) : Type 0 where
    pub coalesces : CoalescesAsDrawn ways old.moment key Ignores Makes old.state new.state answer
    pub rest : new ≡ record old { state = new.state; writes = new.writes }

  -- a compute call began a turn, and then looked its key up
  pub record DidCompute (key : K) (number : ℕ) (seen : Option V) (old new : Guarded K V P S R) :
      Type 0 where
    pub computes : ComputesAsDrawn ways old.moment key old.state new.state
        (computing.Lead number seen)
    pub rest : new ≡ record old { state = new.state }

  -- a key was removed, its value returned, and the turn with a number given up
  pub record DidTakeOut (number : ℕ) (key : K) (removed : Option V) (old new : Guarded K V P S R) :
      Type 0 where
    pub takes_out : TakesOutAsDrawn ways old.moment number key old.state new.state removed
    pub rest : new ≡ record old { state = new.state }

module _ {K V P S R : Type 0} (ways : Ways K V P S R) (lock : ℕ) where
  -- an answer that was found was the visible value
  abbrev pub WasVisible : {F : Type 0} → K → Made V F → Type 0
  WasVisible key (makes.Value value) = DoneUnderLock lock (DidGet ways key (Ok (Some value)))
  WasVisible key other = ⊥

  -- an answer that was received is what the turn ended with that this call waited for
  pub record WasReceived {F : Type 0} (kind : TurnKind) (key : K) (May : Bool → Type 0)
      (answer : Made V F) : Type 0 where
    pub number : ℕ
    pub waits : DoneUnderLock lock (DidBegin ways kind key May (state.Wait number))
    pub told : ToldUnderLock lock kind number answer

  -- an answer that this call made is what it ended the turn with that it led: if it is a value, it was inserted then
  pub record WasMade {F : Type 0} (kind : TurnKind) (key : K) (May : Bool → Type 0)
      (answer : Made V F) : Type 0 where
    pub number : ℕ
    pub leads : DoneUnderLock lock (DidBegin ways kind key May (state.Lead number))
    pub ends : DoneUnderLock lock (DidFinish ways number answer)

  -- what an answer of a call of a kind rests on, if it is fresh and if not
  abbrev pub RestsUnderLock : {F : Type 0} → TurnKind → K → (May : Bool → Type 0) → Made V F
      → (is_fresh : Bool) → Type 0
  RestsUnderLock kind key May answer true = WasMade kind key May answer
  RestsUnderLock kind key May answer false =
      WasVisible key answer ⊎ WasReceived kind key May answer

  -- what an answer of a call that may have no kind rests on; without one, all was done in one hold. Which visible values may be passed over is
  -- not said
  abbrev pub RestsByKind : {F : Type 0} → Option TurnKind → K → Made V F → (is_fresh : Bool) → Type 0
  RestsByKind (Some kind) key answer is_fresh =
      RestsUnderLock kind key (λ passed. Unit {0}) answer is_fresh
  RestsByKind None key answer is_fresh =
      DoneUnderLock lock (DidCoalesce ways key (λ seen passed. Unit {0}) (λ made. Unit {0})
      (answer, is_fresh))

  -- what a selector returns: a fresh answer is what its closure returned, and it rests on this
  abbrev pub GivesUnderLock : {F : Type 0} → Option TurnKind → K → (Ignores : V → Bool → Type 0)
      → (Makes : Made V F → Type 0) → Made V F → Bool → Type 0
  GivesUnderLock kind key Ignores Makes answer is_fresh =
      Gives (λ seen. Unit {0})
      (λ ignored made fresh. RestsByKind kind key made fresh)
      Ignores Makes answer is_fresh

  -- an answer suits the kind of its call, is what its closure returned if it is fresh, and rests on this
  pub record MadeUnderLock {F : Type 0} (kind : TurnKind) (key : K) (May : Bool → Type 0)
      (Makes : Made V F → Type 0) (answer : Made V F) (is_fresh : Bool) : Type 0 where
    pub suits : suits kind answer ≡ true
    pub made : is_fresh ≡ true → Makes answer
    pub rests : RestsUnderLock kind key May answer is_fresh

  -- the same of a call that does not say whether its answer is fresh
  abbrev pub GivenUnderLock : {F : Type 0} → TurnKind → K → (May : Bool → Type 0)
      → (Makes : Made V F → Type 0) → Made V F → Type 0
  GivenUnderLock kind key May Makes answer =
      (is_fresh : Bool) × MadeUnderLock kind key May Makes answer is_fresh

  -- the value of a call that always makes one
  abbrev pub ValueUnderLock : (F : Type 0) → K → (May : Bool → Type 0) → (Makes : V → Type 0) → V
      → Type 0
  ValueUnderLock F key May Makes value =
      GivenUnderLock {F = F} With key May (IsValueOf Makes) (makes.Value value)

  -- the value of a call that may make none
  abbrev pub OptionUnderLock : (F : Type 0) → K → (Makes : Option V → Type 0) → Option V → Type 0
  OptionUnderLock F key Makes found =
      GivenUnderLock {F = F} Optionally key NotPassed (IsOptionOf Makes) (made_option found)

  -- the value, or the fault, of a call that may fail
  abbrev pub ResultUnderLock : {F : Type 0} → K → (Makes : Result V F → Type 0) → Result V F → Type 0
  ResultUnderLock key Makes outcome =
      GivenUnderLock Try key NotPassed (IsResultOf Makes) (made_result outcome)

  -- how a call begins that makes a value: it has its answer, leads a turn, or has its name for another try
  abbrev pub BegunUnderLock : {A F : Type 0} → TurnKind → K → (May : Bool → Type 0) → A
      → MakingStart A V F → Type 0
  BegunUnderLock kind key May asked (Answered made) =
      (suits kind made ≡ true) × RestsUnderLock kind key May made false
  BegunUnderLock kind key May asked (Led number) =
      DoneUnderLock lock (DidBegin ways kind key May (state.Lead number))
  BegunUnderLock kind key May asked (GivenUp again) = again ≡ asked

  -- what a closure decided about what it saw was done in the hold that ended its turn, and this is what was done
  abbrev pub OperatesUnderLock : (number : ℕ) → K → (seen : Option V) → Op V → Computed V → Type 0
  OperatesUnderLock number key seen (op.Put value) done =
      (done ≡ computed_as (op.Put value) seen None)
      × DoneUnderLock lock (DidFinish ways {F = ⊤} number (makes.Value value))
  OperatesUnderLock number key seen op.Remove done =
      (removed : Option V) × (done ≡ computed_as op.Remove seen removed)
      × DoneUnderLock lock (DidTakeOut ways number key removed)
  OperatesUnderLock number key seen op.Nop done =
      (done ≡ computed_as op.Nop seen None)
      × DoneUnderLock lock (DidGiveUp {K = K} {V = V} {P = P} {S = S} {R = R} number)

  -- a closure decided about what it saw, and what it decided was done when the turn with a number ended; or its error is returned
  pub record DecidedUnderLock {E : Type 0} (number : ℕ) (key : K) (seen : Option V)
      (Says : Result (Op V) E → Type 0) (answer : Result (Computed V) E) : Type 0 where
    pub decided : Result (Op V) E
    pub says : Says decided
    pub done : Computed V
    pub does : OperatesUnderLock number key seen (op_decided decided) done
    pub fits : IsOutcomeOf (op_decided decided) done
    pub answers : answer ≡ done_as decided done

  -- a turn began, a closure decided about what was visible then, and what it decided was done when the turn ended; or its error is returned
  pub record ComputedUnderLock {E : Type 0} (key : K) (Says : Option V → Result (Op V) E → Type 0)
      (answer : Result (Computed V) E) : Type 0 where
    pub number : ℕ
    pub seen : Option V
    pub leads : DoneUnderLock lock (DidCompute ways key number seen)
    pub decides : DecidedUnderLock number key seen (λ decided. Says seen decided) answer

  -- a turn began, and an operation was done in the hold that ended it
  abbrev pub DoesUnderLock : K → Op V → Computed V → Type 0
  DoesUnderLock key does done =
      (number : ℕ) × (seen : Option V) × DoneUnderLock lock (DidCompute ways key number seen)
      × OperatesUnderLock number key seen does done

  -- a closure decided about something that it was shown, and what it decided was done; or its error is returned
  abbrev pub DecidesUnderLock : {E : Type 0} → K → (Says : Option V → Result (Op V) E → Type 0)
      → Result (Computed V) E → Type 0
  DecidesUnderLock key Says answer = Decides (λ seen. Unit {0}) (DoesUnderLock key) Says answer
