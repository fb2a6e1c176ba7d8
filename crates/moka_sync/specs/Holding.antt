-- What a lock guards, and what a call did in one hold of it.
use Rattle.std.specs.Prelude.{◌≡◌, ◌+◌, ◌<◌, ℕ, List, Bool, Option, Some, None, Result, IfOk, OnErr, OnOk, if◌then◌else◌, is_ok, is_some, length, slice_get}
use Rattle.engine_reference.specs.State.{Answers}
use Rattle.engine_reference.specs.declared.data.Notice.{Notice}
use Rattle.front_reference.specs.Fronts.{Front}
use Rattle.front_reference.specs.Wholes.{next_told, without_told}
use Rattle.front_reference.specs.declared.errors.CacheError.{CacheError}
use Rattle.front_state.specs.Calls.{Ways, hash_in, held_value_in}
use Rattle.rand_core.specs.Stream.{Stream}
use Rattle.sync_desk.specs.Drawing.{ClearsAsDrawn, CoversAsDrawn, InsertsAsDrawn, LooksUpAsDrawn, RemovesAsDrawn, RunsAsDrawn, SeesAsDrawn}
use Rattle.sync_desk.specs.Writing.{noted_if}

-- what a lock guards, but for who waits for a turn: a desk's number and state, when values were last written, the moment that was handed in,
-- and the words that the generator is to give
pub record Guarded (K V P S R : Type 0) : Type 0 where
  pub number : ℕ
  pub state : Front K V P S R
  pub writes : List ℕ
  pub moment : ℕ
  pub stream : Stream

-- the same of a shard, but for the generator too
pub record GuardedShard (K V P S R : Type 0) : Type 0 where
  pub number : ℕ
  pub state : Front K V P S R
  pub writes : List ℕ
  pub moment : ℕ

-- the items of a list bear their places as numbers
abbrev pub BearTheirPlaces : {D : Type 0} → List D → (D → ℕ) → Type 0
BearTheirPlaces {D} ds number =
    (place : ℕ) (d : D) → slice_get ds place ≡ Some d → number d ≡ place

-- at some moment, in one hold of the lock of the desk with this number, what the lock guards was taken through this
pub record DoneUnderLock {K V P S R : Type 0} (number : ℕ)
    (Fact : Guarded K V P S R → Guarded K V P S R → Type 0) : Type 0 where
  pub old : Guarded K V P S R
  pub new : Guarded K V P S R
  pub numbered : old.number ≡ number
  pub fact : Fact old new

module _ {K V P S R : Type 0} (ways : Ways K V P S R) where
  -- the visible value of a key was returned, and used; a call that was refused changed nothing
  pub record DidGet (key : K) (result : Result (Option V) CacheError) (old new : Guarded K V P S R) :
      Type 0 where
    pub found : IfOk result (LooksUpAsDrawn ways old.moment key old.state new.state)
    pub err : OnErr result (new.state ≡ old.state)
    pub rest : new ≡ record old { state = new.state }

  -- it was told whether a key has a visible value, and nothing changed
  pub record DidSee (key : K) (result : Bool) (old new : Guarded K V P S R) : Type 0 where
    pub seen : Option V
    pub found : SeesAsDrawn ways old.moment key old.state seen
    pub told : result ≡ is_some seen
    pub same : new ≡ old

  -- this value of a key was visible, and nothing changed
  pub record DidShow (key : K) (value : V) (old new : Guarded K V P S R) : Type 0 where
    pub seen : SeesAsDrawn ways old.moment key old.state (Some value)
    pub same : new ≡ old

  -- a value was inserted, and its write noted; a call that was refused changed nothing
  pub record DidInsert (key : K) (value : V) (result : Result (Unit {0}) CacheError)
      (old new : Guarded K V P S R) : Type 0 where
    pub inserts : OnOk result (InsertsAsDrawn ways old.moment key value old.state new.state)
    pub err : OnErr result (new.state ≡ old.state)
    pub rest : new ≡ record old {
      state = new.state;
      writes = noted_if (if is_ok result then Some (hash_in ways old.state key) else None)
          (old.state.step + 1) old.writes;
    }

  -- a key was removed; a call that was refused changed nothing
  pub record DidInvalidate (key : K) {T : Type 0} (result : Result T CacheError)
      (old new : Guarded K V P S R) : Type 0 where
    pub removes : OnOk result (RemovesAsDrawn ways old.moment key old.state new.state)
    pub err : OnErr result (new.state ≡ old.state)
    pub rest : new ≡ record old { state = new.state }

  -- a key was removed, and its value returned
  pub record DidRemove (key : K) (result : Result (Option V) CacheError) (old new : Guarded K V P S R) :
      Type 0 where
    pub value : IfOk result (λ value. value ≡ held_value_in ways old.state key)
    pub removes : DidInvalidate key result old new

module _ {K V P S R : Type 0} where
  -- every value that was written before was covered
  pub record DidClear (old new : Guarded K V P S R) : Type 0 where
    pub clears : ClearsAsDrawn old.moment old.state new.state
    pub rest : new ≡ record old { state = new.state }

  -- maintenance ran to its end
  pub record DidRun (answers : Answers K V P R) (old new : Guarded K V P S R) : Type 0 where
    pub runs : RunsAsDrawn answers old.moment old.state new.state
    pub rest : new ≡ record old { state = new.state }

  -- this notice was the oldest of the first segment that had one, and was taken; none if none had one
  pub record DidTell (notice : Option (Notice K V)) (old new : Guarded K V P S R) : Type 0 where
    pub told : notice ≡ next_told old.state.parts
    pub taken : new ≡ record old {
      state = record old.state { parts = without_told old.state.parts };
    }

  -- a predicate was registered in each segment for all values that were written before, by identifiers of the desk's own generator; a call
  -- that was refused left the state
  pub record DidCover (predicate : P) {T : Type 0} (result : Result T CacheError)
      (old new : Guarded K V P S R) : Type 0 where
    pub covers : OnOk result ((id : ℕ)
        × CoversAsDrawn old.moment predicate old.stream new.stream id old.state new.state)
    pub err : OnErr result (new.state ≡ old.state)
    pub rest : new ≡ record old { state = new.state; stream = new.stream }

  -- this was done to each of so many desks, in a hold of its lock
  abbrev pub DoneUnderEach : (count : ℕ)
      → (Fact : Guarded K V P S R → Guarded K V P S R → Type 0) → Type 0
  DoneUnderEach count Fact = (number : ℕ) → number < count → DoneUnderLock number Fact

-- at some moment, while the locks of all desks were held, of which there are so many, what they guard, in the order of their numbers, was
-- taken through this
pub record DoneUnderAll {K V P S R : Type 0} (count : ℕ)
    (Fact : List (GuardedShard K V P S R) → List (GuardedShard K V P S R) → Type 0) : Type 0 where
  pub old : List (GuardedShard K V P S R)
  pub new : List (GuardedShard K V P S R)
  pub many : length old ≡ count
  pub numbered : BearTheirPlaces old (λ d. d.number)
  pub fact : Fact old new
