-- Calls of selectors.
use Rattle.std.specs.Prelude.{◌≡◌, ◌⊎◌, Bool, true, false, Option, Some, None, Result, Ok, Err, ⊤}
use Rattle.front_reference.specs.declared.data.Computed.{Computed}
use Rattle.front_reference.specs.declared.data.Made.{Made}
use Rattle.front_reference.specs.declared.data.Made.TheVariants.{Value, Nothing, Fault}
use Rattle.front_reference.specs.declared.data.Op.{Op}
use Rattle.front_reference.specs.declared.data.Op.TheVariants.{Put}
use Rattle.front_reference.specs.declared.data.TurnKind.{TurnKind}
use Rattle.front_reference.specs.declared.data.TurnKind.TheVariants.{Optionally, With}
use Rattle.front_reference.specs.declared.errors.CacheError.{CacheError}
use Rattle.front_reference.specs.declared.errors.CacheError.TheVariants.{OutOfMemory}
use Rattle.front_parts.specs.declared.access.entry.CompResult.{CompResult}
use Rattle.front_parts.specs.declared.access.entry.Entry.{Entry}
use Rattle.front_parts.specs.declared.access.selector.EntrySelector.{EntrySelector}
use Rattle.front_parts.specs.Access.Answering.{IsCoalesced, IsComputed, IsValueOf, Suits}
use Rattle.front_parts.specs.Access.Entries.{entry_in, entry_with, result_shown}

-- a coalesced call of the selected key
abbrev pub Selects : {C W K V F : Type 0} → (C → W → K → Option V → Type 0)
    → (C → W → Option TurnKind → K → Bool → Made V F → Bool → C → Type 0)
    → Option TurnKind → EntrySelector K C W → C → (V → Bool → Type 0) → (Made V F → Type 0)
    → Made V F → Bool → Type 0
Selects sees coalesced kind s new Ignores Makes answer is_fresh =
    IsCoalesced sees coalesced kind s.when s.key s.owner.now new Ignores Makes answer is_fresh

-- a call of the selected key that is coalesced and always makes a value, and its entry
abbrev pub SelectsValue : {C W K V F : Type 0} → (C → W → K → Option V → Type 0)
    → (C → W → Option TurnKind → K → Bool → Made V F → Bool → C → Type 0)
    → EntrySelector K C W → C → (V → Bool → Type 0) → (V → Type 0) → Entry K V → Type 0
SelectsValue sees coalesced s new Ignores Makes e =
    Selects sees coalesced (Some With) s new Ignores (IsValueOf Makes) (Value e.value) e.is_fresh

-- a call of a selector is refused: there was no memory for its key, or its cache refuses it
abbrev pub IsRefusedBy : (Refuses : CacheError → Type 0) → CacheError → Type 0
IsRefusedBy Refuses e = (e ≡ OutOfMemory) ⊎ Refuses e

module _ {K V F : Type 0} where
  -- the entry of what was returned, if it is a value
  abbrev pub option_shown : K → Bool → Made V F → Option (Entry K V)
  option_shown key is_fresh (Value v) = Some (entry_with key v is_fresh false)
  option_shown key is_fresh Nothing = None
  option_shown key is_fresh (Fault f) = None

  -- the entry of what was returned, or the fault
  abbrev pub IsResultShown : K → Bool → Made V F → Result (Entry K V) F → Type 0
  IsResultShown key is_fresh (Value v) shown = shown ≡ Ok (entry_with key v is_fresh false)
  IsResultShown key is_fresh (Fault f) shown = shown ≡ Err f
  IsResultShown key is_fresh Nothing shown = ⊥

  -- a call that may make no value, and what it shows
  pub record GivesOption (key : K) (Answers : Made V F → Bool → Type 0) (shown : Option (Entry K V))
      : Type 0 where
    pub answer : Made V F
    pub is_fresh : Bool
    pub suits : Suits (Some Optionally) answer
    pub answers : Answers answer is_fresh
    pub shows : shown ≡ option_shown key is_fresh answer

  -- a call that may fail, and what it shows
  pub record GivesResult (key : K) (Answers : Made V F → Bool → Type 0)
      (shown : Result (Entry K V) F) : Type 0 where
    pub answer : Made V F
    pub is_fresh : Bool
    pub answers : Answers answer is_fresh
    pub shows : IsResultShown key is_fresh answer shown

-- a result, with another fault
abbrev pub with_fault : {X E F : Type 0} → (E → F) → Result X E → Result X F
with_fault f (Ok x) = Ok x
with_fault f (Err e) = Err (f e)

-- a compute call of the selected key, whose result is shown with it
pub record ComputesEntry {C W K V E : Type 0} (sees : C → W → K → Option V → Type 0) (computed : C → W → K → Op V → Computed V → C → Type 0)
    (s : EntrySelector K C W) (new : C) (Says : Option V → Result (Op V) E → Type 0)
    (shown : Result (CompResult K V) E) : Type 0 where
  pub answer : Result (Computed V) E
  pub computes : IsComputed sees computed s.when s.key s.owner.now new Says answer
  pub shows : shown ≡ result_shown s.key answer

-- a closure that never fails decided this
abbrev pub DecidesAlways : {V E : Type 0} → (Option V → Op V → Type 0) → Option V → Result (Op V) E
    → Type 0
DecidesAlways Says seen (Ok does) = Says seen does
DecidesAlways Says seen (Err e) = ⊥

-- a closure made a value, which is put
abbrev pub PutsAlways : {V E : Type 0} → (Option V → V → Type 0) → Option V → Result (Op V) E
    → Type 0
PutsAlways Makes seen (Ok (Put value)) = Makes seen value
PutsAlways Makes seen other = ⊥

-- a closure made a value from what was seen, it was put, and the entry shows it
pub record PutsEntry {C W K V : Type 0} (sees : C → W → K → Option V → Type 0) (computed : C → W → K → Op V → Computed V → C → Type 0)
    (s : EntrySelector K C W) (new : C) (Makes : Option V → V → Type 0) (shown : Entry K V) : Type 0
  where
    pub done : CompResult K V
    pub computes : ComputesEntry {E = ⊤} sees computed s new (PutsAlways Makes) (Ok done)
    pub entry : entry_in done ≡ Some shown
    pub fresh : shown.is_fresh ≡ true
