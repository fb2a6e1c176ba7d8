-- What calls with closures return, by what a cache does with values: which ones it sees and what it returns then.
use Rattle.std.specs.Prelude.{◌≡◌, Bool, true, false, Option, Some, None, MatchOption, Result, Ok, Err}
use Rattle.front_reference.specs.declared.data.Computed.{Computed}
use Rattle.front_reference.specs.declared.data.Computed.TheVariants.{Inserted, ReplacedWith, Removed, StillNone, Unchanged}
use Rattle.front_reference.specs.declared.data.Made.{Made}
use Rattle.front_reference.specs.declared.data.Made.TheVariants.{Value, Nothing, Fault}
use Rattle.front_reference.specs.declared.data.Op.{Op}
use Rattle.front_reference.specs.declared.data.Op.TheVariants.{Nop, Put, Remove}
use Rattle.front_reference.specs.declared.data.TurnKind.{TurnKind}
use Rattle.front_reference.specs.declared.data.TurnKind.TheVariants.{Optionally, Try}
use Rattle.front_reference.specs.Parts.{op_decided}

module _ {V F : Type 0} where
  -- which outcomes a call of a kind may have; a call without a kind, which waits for nobody, makes a value
  abbrev pub Suits : Option TurnKind → Made V F → Type 0
  Suits kind (Value v) = Unit {0}
  Suits (Some Optionally) Nothing = Unit {0}
  Suits (Some Try) (Fault f) = Unit {0}
  Suits kind other = ⊥

  -- what was made, which may be nothing
  abbrev pub made_option : Option V → Made V F
  made_option (Some value) = Value value
  made_option None = Nothing

  -- what was made, or why nothing was
  abbrev pub made_result : Result V F → Made V F
  made_result (Ok value) = Value value
  made_result (Err fault) = Fault fault

  -- a value was made, with this property
  abbrev pub IsValueOf : (V → Type 0) → Made V F → Type 0
  IsValueOf Makes (Value v) = Makes v
  IsValueOf Makes Nothing = ⊥
  IsValueOf Makes (Fault f) = ⊥

  -- what a closure that may make a value made
  abbrev pub IsOptionOf : (Option V → Type 0) → Made V F → Type 0
  IsOptionOf Makes (Value v) = Makes (Some v)
  IsOptionOf Makes Nothing = Makes None
  IsOptionOf Makes (Fault f) = ⊥

  -- what a closure that may fail made
  abbrev pub IsResultOf : (Result V F → Type 0) → Made V F → Type 0
  IsResultOf Makes (Value v) = Makes (Ok v)
  IsResultOf Makes Nothing = ⊥
  IsResultOf Makes (Fault f) = Makes (Err f)

  -- a coalesced call: the test is called on what is seen, a fresh result is one that was made, and the cache did what it does with them
  pub record Gives (Sees : Option V → Type 0) (Does : Bool → Made V F → Bool → Type 0)
      (Ignores : V → Bool → Type 0) (Makes : Made V F → Type 0) (answer : Made V F) (is_fresh : Bool)
      : Type 0 where
    pub seen : Option V
    pub sees : Sees seen
    pub ignored : Bool
    pub asked : MatchOption seen (Unit {0}) (λ v. Ignores v ignored)
    pub made : is_fresh ≡ true → Makes answer
    pub does : Does ignored answer is_fresh

-- a coalesced call of a cache, by the definitions of what the cache sees and does
abbrev pub IsCoalesced : {C W K V F : Type 0} → (C → W → K → Option V → Type 0)
    → (C → W → Option TurnKind → K → Bool → Made V F → Bool → C → Type 0)
    → Option TurnKind → W → K → (old new : C) → (Ignores : V → Bool → Type 0)
    → (Makes : Made V F → Type 0) → Made V F → Bool → Type 0
IsCoalesced sees coalesced kind when key old new Ignores Makes answer is_fresh =
    Gives (sees old when key)
    (λ ignored made fresh. coalesced old when kind key ignored made fresh new) Ignores Makes
    answer is_fresh

-- no value is passed over
abbrev pub passes_none : {V : Type 0} → V → Bool → Type 0
passes_none v ignored = ignored ≡ false

module _ {V : Type 0} where
  -- what an operation can have done
  abbrev pub IsOutcomeOf : Op V → Computed V → Type 0
  IsOutcomeOf Nop (Unchanged v) = Unit {0}
  IsOutcomeOf Nop StillNone = Unit {0}
  IsOutcomeOf (Put value) (Inserted v) = v ≡ value
  IsOutcomeOf (Put value) (ReplacedWith v) = v ≡ value
  IsOutcomeOf Remove (Removed v) = Unit {0}
  IsOutcomeOf Remove StillNone = Unit {0}
  IsOutcomeOf does done = ⊥

  -- what is returned after a closure decided: what was done, or its error
  abbrev pub done_as : {E : Type 0} → Result (Op V) E → Computed V → Result (Computed V) E
  done_as (Ok does) done = Ok done
  done_as (Err e) done = Err e

  -- a compute call: a closure decides by what is seen, and the cache does that
  pub record Decides {
      E : Type 0} (Sees : Option V → Type 0) (Does : Op V → Computed V → Type 0) (Says : Option V → Result (Op V) E → Type 0) (answer : Result (Computed V) E) : Type 0 where
    pub seen : Option V
    pub sees : Sees seen
    pub decided : Result (Op V) E
    pub says : Says seen decided
    pub done : Computed V
    pub does : Does (op_decided decided) done
    pub fits : IsOutcomeOf (op_decided decided) done
    pub answers : answer ≡ done_as decided done

-- a compute call of a cache, by its definitions
abbrev pub IsComputed : {C W K V E : Type 0} → (C → W → K → Option V → Type 0)
    → (C → W → K → Op V → Computed V → C → Type 0)
    → W → K → (old new : C) → (Says : Option V → Result (Op V) E → Type 0) → Result (Computed V) E
    → Type 0
IsComputed sees computed when key old new Says answer =
    Decides (sees old when key) (λ does done. computed old when key does done new) Says answer
