-- What a call does to the state, at the moment and step that it draws.
use Rattle.std.specs.Prelude.{◌≡◌, ◌⊎◌, ℕ, ◌+◌, ◌^◌, ◌≤◌, max, Bool, false, Option, Some, None, Result, Ok, Err}
use Rattle.engine_reference.specs.Calls.{cleared_by}
use Rattle.engine_reference.specs.State.{Answers}
use Rattle.front_parts.specs.Places.Turning.{IsTurnCause}
use Rattle.front_parts.specs.Wholes.Covering.{SomeLacksTickets}
use Rattle.front_reference.specs.Fronts.{Front, CallsAll, turn_at}
use Rattle.front_reference.specs.Turns.{abandoned, begun_compute}
use Rattle.front_reference.specs.Wholes.{DrawsInVain, RunsPart}
use Rattle.front_reference.specs.declared.data.At.{At}
use Rattle.front_reference.specs.declared.data.Made.{Made}
use Rattle.front_reference.specs.declared.data.TurnKind.{TurnKind}
use Rattle.front_reference.specs.declared.data.TurnStart.{TurnStart}
use Rattle.front_reference.specs.declared.data.TurnStart.TheVariants as state
use Rattle.front_reference.specs.declared.errors.CacheError.{CacheError}
use Rattle.front_reference.specs.declared.errors.CacheError.TheVariants as errors
use Rattle.front_state.specs.Calls.{CoalescesBy, InsertsIn, LooksUpIn, TakesOutIn, Ways, hash_in, held_value_in, visible_in}
use Rattle.front_state.specs.Beginning.{BeginsBy}
use Rattle.front_state.specs.Covering.{CoversAll}
use Rattle.front_state.specs.Turning.{FinishesBy}
use Rattle.rand_core.specs.Stream.{Stream}
use Rattle.sync_desk.specs.Slots.Waiting.{ChangesTurnAt, IsPutAt, SlotsByNumber, SlotsStay, joined_by_one, fresh_turn, waiters_at}
use Rattle.sync_desk.specs.declared.slots.slot.Ending.{Ending}
use Rattle.sync_desk.specs.declared.slots.slot.Ending.TheVariants.{Done, GivenUp}
use Rattle.sync_desk.specs.declared.turns.ComputeStart.{ComputeStart}
use Rattle.sync_desk.specs.declared.turns.ComputeStart.TheVariants as computing
use Rattle.sync_desk.specs.declared.turns.Start.{Start}
use Rattle.sync_desk.specs.declared.turns.Start.TheVariants.{Found, Wait, Lead}

-- what is drawn for the next call: the later of the moment that was handed in and the last one, and the step after the last
abbrev pub IsDrawn : {K V P S R : Type 0} → (moment : ℕ) → Front K V P S R → At → Type 0
IsDrawn moment f at = (at.now ≡ max moment f.moment) × (at.step ≡ f.step + 1)

module _ {K V P S R : Type 0} where
  -- so many of the 64-bit steps are not left
  abbrev pub LacksSteps : (count : ℕ) → Front K V P S R → Type 0
  LacksSteps count f = 2 ^ 64 ≤ f.step + count

  -- no turn begins, and none is waited for: the steps, the numbers of turns, or the count of those that wait for one are used up
  abbrev pub LacksNumbers : {F : Type 0} → Front K V P S R → SlotsByNumber V F → Type 0
  LacksNumbers f slots =
      LacksSteps 1 f ⊎ IsTurnCause f.next_turn errors.UsedUp
      ⊎ ((number : ℕ) × (2 ^ 64 ≤ waiters_at number slots + 1))

  -- the turn with this number ended with nothing; or nothing changed, because the steps are used up or it is not under way
  abbrev pub GivesUp : (moment number : ℕ) → Front K V P S R → Front K V P S R → Type 0
  GivesUp moment number old new =
      ((new ≡ old) × (LacksSteps 1 old ⊎ (turn_at old.turns number ≡ None)))
      ⊎ ((at : At) × IsDrawn moment old at × (new ≡ abandoned number at.now at.step old))

  -- every value that was written before is covered
  abbrev pub ClearsAsDrawn : (moment : ℕ) → Front K V P S R → Front K V P S R → Type 0
  ClearsAsDrawn moment old new =
      (at : At) × IsDrawn moment old at
      × CallsAll at.now at.step (λ s t. t ≡ cleared_by at.step s) old new

  -- each part's maintenance runs to its end
  abbrev pub RunsAsDrawn : Answers K V P R → (moment : ℕ) → Front K V P S R → Front K V P S R → Type 0
  RunsAsDrawn answers moment old new =
      (at : At) × IsDrawn moment old at × CallsAll at.now at.step (RunsPart answers at.now) old new

  -- a predicate is registered in each segment for all values that were written before, under identifiers that are drawn from a stream; the
  -- first segment's identifier is this
  abbrev pub CoversAsDrawn : (moment : ℕ) → P → (drawn left : Stream) → (first : ℕ)
      → Front K V P S R → Front K V P S R → Type 0
  CoversAsDrawn moment predicate drawn left first old new =
      (at : At) × IsDrawn moment old at × CoversAll predicate at drawn left first old new

  -- why a predicate is registered in no segment: there was no memory, the steps or the tickets of a segment are used up, or the cache takes
  -- none, and nothing is drawn from the stream; or a segment drew a thousand identifiers that are in use
  abbrev pub IsCauseToCoverAsDrawn : (drawn left : Stream) → Front K V P S R → CacheError → Type 0
  IsCauseToCoverAsDrawn drawn left f errors.OutOfMemory = left ≡ drawn
  IsCauseToCoverAsDrawn drawn left f errors.UsedUp =
      (left ≡ drawn) × (LacksSteps 1 f ⊎ SomeLacksTickets f.parts)
  IsCauseToCoverAsDrawn drawn left f errors.InvalidationClosuresDisabled =
      (left ≡ drawn) × (f.common.settings.takes_predicates ≡ false)
  IsCauseToCoverAsDrawn drawn left f errors.IdsInUse = DrawsInVain f.parts drawn left
  IsCauseToCoverAsDrawn drawn left f other = ⊥

-- how a call that makes a value begins, in terms of the state
abbrev pub state_start : {A V : Type 0} → Start A V → TurnStart V
state_start (Found value) = state.Found value
state_start (Wait number asked) = state.Wait number
state_start (Lead number) = state.Lead number

-- a call that waits is handed back the name of its key
abbrev pub KeepsName : {A V : Type 0} → A → Start A V → Type 0
KeepsName asked (Wait number again) = again ≡ asked
KeepsName asked other = Unit {0}

-- the same of a compute call
abbrev pub compute_start : {V : Type 0} → ComputeStart V → TurnStart V
compute_start (computing.Wait number) = state.Wait number
compute_start (computing.Lead number seen) = state.Lead number

module _ {K V P S R : Type 0} (ways : Ways K V P S R) (moment : ℕ) where
  -- the value of a key that is visible at the later of the moment that was handed in and the last one
  abbrev pub SeesAsDrawn : K → Front K V P S R → Option V → Type 0
  SeesAsDrawn key f found = found ≡ visible_in ways f (max moment f.moment) key

  -- the visible value of a key is found, and used
  abbrev pub LooksUpAsDrawn : K → Front K V P S R → Front K V P S R → Option V → Type 0
  LooksUpAsDrawn key old new found =
      (at : At) × IsDrawn moment old at × (found ≡ visible_in ways old at.now key)
      × LooksUpIn ways key at old new

  -- a value is inserted
  abbrev pub InsertsAsDrawn : K → V → Front K V P S R → Front K V P S R → Type 0
  InsertsAsDrawn key value old new =
      (at : At) × IsDrawn moment old at × InsertsIn ways key value at old new

  -- a key is removed, whether its deadline has come or not
  abbrev pub RemovesAsDrawn : K → Front K V P S R → Front K V P S R → Type 0
  RemovesAsDrawn key old new = (at : At) × IsDrawn moment old at × TakesOutIn ways key at old new

  -- a key is removed, which gives its value, and then the turn with a number is given up
  abbrev pub TakesOutAsDrawn : (number : ℕ) → K → Front K V P S R → Front K V P S R → Option V
      → Type 0
  TakesOutAsDrawn number key old new value =
      (mid : Front K V P S R) × RemovesAsDrawn key old mid × (value ≡ held_value_in ways old key)
      × GivesUp moment number mid new

  -- a call of a kind begins
  abbrev pub BeginsAsDrawn : TurnKind → K → (Ignores : V → Bool → Type 0) → Front K V P S R
      → Front K V P S R → TurnStart V → Type 0
  BeginsAsDrawn kind key Ignores old new start =
      (at : At) × IsDrawn moment old at
      × BeginsBy ways kind key (hash_in ways old key) at Ignores old new start

  -- the turn of a key's compute call that is under way is waited for, or one begins
  abbrev pub StartsAsDrawn : K → Front K V P S R → Front K V P S R → TurnStart V → Type 0
  StartsAsDrawn key old new start =
      (at : At) × IsDrawn moment old at
      × ((start, new) ≡ begun_compute ways.eq key (hash_in ways old key) at.now at.step old)

  -- a compute call waits, or leads and then looks its key up
  abbrev pub ComputesAsDrawn : K → Front K V P S R → Front K V P S R → ComputeStart V → Type 0
  ComputesAsDrawn key old new (computing.Wait number) =
      StartsAsDrawn key old new (state.Wait number)
  ComputesAsDrawn key old new (computing.Lead number seen) =
      (mid : Front K V P S R) × StartsAsDrawn key old mid (state.Lead number)
      × LooksUpAsDrawn key mid new seen

  -- the visible value of a key is found, or one is made, in one call
  abbrev pub CoalescesAsDrawn : {F E : Type 0} → K → (Ignores : V → Bool → Type 0)
      → (Makes : Result (Made V F) E → Type 0) → Front K V P S R → Front K V P S R → Made V F × Bool
      → Type 0
  CoalescesAsDrawn key Ignores Makes old new answer =
      (at : At) × IsDrawn moment old at × CoalescesBy ways key at Ignores Makes old new answer

  -- the turn with a number ends with what was made
  abbrev pub FinishesAsDrawn : {F : Type 0} → (number : ℕ) → Made V F → Front K V P S R
      → Front K V P S R → Type 0
  FinishesAsDrawn number made old new =
      (at : At) × IsDrawn moment old at × FinishesBy ways number made at old new

-- a compute call that is refused changed nothing, or began a turn and gave it up: it is no longer there
abbrev pub EndsUnstarted : {K V P S R F : Type 0} → Ways K V P S R → (moment : ℕ) → K
    → (slots left : SlotsByNumber V F) → Front K V P S R → Front K V P S R → Type 0
EndsUnstarted {K} {V} {P} {S} {R} ways moment key slots left old new =
    ((new ≡ old) × SlotsStay slots left)
    ⊎ ((number : ℕ) × (mid : Front K V P S R)
    × StartsAsDrawn ways moment key old mid (state.Lead number)
    × GivesUp moment number mid new × IsPutAt number None slots left)

-- What a call does to the turns that are led or waited for.
module _ {V F : Type 0} where
  -- a call of a kind on a key of this hash waits for a turn, or leads one for which nobody waits
  abbrev pub HasStarted : TurnKind → (hash : ℕ) → (old new : SlotsByNumber V F) → TurnStart V
      → Type 0
  HasStarted kind hash old new (state.Found value) = SlotsStay old new
  HasStarted kind hash old new (state.Wait number) = ChangesTurnAt kind number joined_by_one old new
  HasStarted kind hash old new (state.Lead number) =
      IsPutAt number (Some (fresh_turn kind hash)) old new

  -- the same of a call that names its key, whose name a caller that waits keeps
  abbrev pub StartsTurn : {A : Type 0} → TurnKind → (hash : ℕ) → A → (old new : SlotsByNumber V F)
      → Start A V → Type 0
  StartsTurn kind hash asked old new start =
      HasStarted kind hash old new (state_start start) × KeepsName asked start

  -- what those that wait are told: what was made, if the turn ended with it
  abbrev pub told_at_end : {E : Type 0} → Made V F → Result (Unit {0}) E → Ending V F
  told_at_end made (Ok done) = Done made
  told_at_end made (Err e) = GivenUp
