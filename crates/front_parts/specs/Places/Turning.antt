-- What turns are begun and ended for, said of the part that a key belongs to.
use Rattle.std.specs.Prelude.{◌≡◌, ℕ, ◌+◌, ◌^◌, ◌≤◌, Bool, Some, None}
use Rattle.engine_reference.specs.Scanning.{NotesLookUp}
use Rattle.front_reference.specs.Fronts.{Front, CallsPart, part_by_hash, turn_at, turn_of}
use Rattle.front_reference.specs.Turns.{Begins, abandoned, turn_ended, with_turn, wait_or_lead}
use Rattle.front_reference.specs.Parts.{Operates}
use Rattle.front_reference.specs.declared.data.At.{At}
use Rattle.front_reference.specs.declared.data.Made.{Made}
use Rattle.front_reference.specs.declared.data.Made.TheVariants as made
use Rattle.front_reference.specs.declared.data.Op.{Op}
use Rattle.front_reference.specs.declared.data.Op.TheVariants as op
use Rattle.front_reference.specs.declared.data.OpenTurn.{OpenTurn}
use Rattle.front_reference.specs.declared.data.TurnKind.{TurnKind}
use Rattle.front_reference.specs.declared.data.TurnStart.{TurnStart}
use Rattle.front_reference.specs.declared.errors.CacheError.{CacheError}
use Rattle.front_reference.specs.declared.errors.CacheError.TheVariants as errors
use Rattle.front_parts.specs.Places.Calls.{IsCauseOf, Ways}

-- why no turn is begun: there was no memory, or the numbers of 64 bits are used up
abbrev pub IsTurnCause : (next_turn : ℕ) → CacheError → Type 0
IsTurnCause next_turn errors.OutOfMemory = Unit {0}
IsTurnCause next_turn errors.UsedUp = 2 ^ 64 ≤ next_turn + 1
IsTurnCause next_turn other = ⊥

module _ {K V P S R : Type 0} (ways : Ways K V P S R) where
  -- the second half of a look-up, of what is not found, and then a turn begins
  pub record Leads (kind : TurnKind) (key : K) (hash : ℕ) (at : At) (ignored : Bool)
      (old new : Front K V P S R) (number : ℕ) : Type 0 where
    pub mid : Front K V P S R
    pub looks : CallsPart hash at.now at.step
        (NotesLookUp ways.answers ways.eq key hash at.now ignored) old mid
    pub first : number ≡ old.next_turn
    pub opens : new ≡ with_turn kind key hash mid

  -- a coalesced call begins
  abbrev pub BeginsIn : TurnKind → K → (hash : ℕ) → At → (Ignores : V → Bool → Type 0)
      → Front K V P S R → Front K V P S R → TurnStart V → Type 0
  BeginsIn kind key hash at Ignores old new start =
      Begins ways.answers ways.eq kind key hash at.now at.step Ignores old new start

  -- and then the turn under way is waited for, or one begins
  pub record WaitsOrLeads (kind : TurnKind) (key : K) (hash : ℕ) (at : At) (ignored : Bool)
      (old new : Front K V P S R) (start : TurnStart V) : Type 0 where
    pub mid : Front K V P S R
    pub looks : CallsPart hash at.now at.step
        (NotesLookUp ways.answers ways.eq key hash at.now ignored) old mid
    pub ends : (start, new) ≡ wait_or_lead (turn_of ways.eq mid.turns kind key) kind key hash mid

  -- a turn of this number ends, and this is done under its key, whatever happened to the key meanwhile
  pub record EndsTurn (number : ℕ) (turn : OpenTurn K) (does : Op V) (at : At)
      (old new : Front K V P S R) : Type 0 where
    pub mid : Front K V P S R
    pub writes : CallsPart turn.hash at.now at.step
        (Operates ways.answers ways.eq turn.key turn.hash at.now at.step does) old mid
    pub ends : new ≡ turn_ended number mid

  -- the turn of a number ends so
  abbrev pub EndsTurnOf : (number : ℕ) → (does : Op V) → At → Front K V P S R → Front K V P S R
      → Type 0
  EndsTurnOf number does at old new =
      (turn : OpenTurn K) → turn_at old.turns number ≡ Some turn
      → EndsTurn number turn does at old new

  -- a turn ends with what was made: a value is inserted, and else nothing is done
  abbrev pub FinishesBy : {F : Type 0} → (number : ℕ) → Made V F → At → Front K V P S R
      → Front K V P S R → Type 0
  FinishesBy number (made.Value value) at old new = EndsTurnOf number (op.Put value) at old new
  FinishesBy number made.Nothing at old new = new ≡ abandoned number at.now at.step old
  FinishesBy number (made.Fault fault) at old new = new ≡ abandoned number at.now at.step old

  -- why a turn does not end: no turn of this number is under way, or one is, and its value is refused
  abbrev pub IsFinishCause : (number : ℕ) → Front K V P S R → CacheError → Type 0
  IsFinishCause number f errors.UnknownTurn = turn_at f.turns number ≡ None
  IsFinishCause number f e =
      (turn : OpenTurn K) × (turn_at f.turns number ≡ Some turn)
      × IsCauseOf ways (λ settings. 1) (part_by_hash f turn.hash) e
