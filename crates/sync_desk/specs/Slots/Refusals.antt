-- Why calls of a shared cache are refused.
use Rattle.std.specs.Prelude.{◌≡◌, ◌⊎◌, Result, IfErr}
use Rattle.std.specs.Result.{IsErrOf}
use Rattle.front_reference.specs.declared.errors.CacheError.{CacheError}
use Rattle.front_reference.specs.declared.errors.CacheError.TheVariants.{OutOfMemory, InvalidationClosuresDisabled, IdsInUse, UsedUp, UnknownTurn, Abandoned}

-- there was no memory, or the 64-bit numbers are used up
abbrev pub IsShortage : CacheError → Type 0
IsShortage OutOfMemory = Unit {0}
IsShortage UsedUp = Unit {0}
IsShortage other = ⊥

-- a call that is refused lacks memory or numbers; if numbers, these are used up
abbrev pub IsShortOf : {T : Type 0} → (Lacks : Type 0) → Result T CacheError → Type 0
IsShortOf Lacks result = IfErr result IsShortage × (IsErrOf result UsedUp → Lacks)

-- a turn does not end: for lack of memory or numbers, or because it is not under way
abbrev pub IsEndRefusal : CacheError → Type 0
IsEndRefusal e = IsShortage e ⊎ (e ≡ UnknownTurn)

-- a turn that does not end lacks memory or numbers, or is not under way; if numbers, these are used up
abbrev pub IsEndShortOf : {T : Type 0} → (Lacks : Type 0) → Result T CacheError → Type 0
IsEndShortOf Lacks result = IfErr result IsEndRefusal × (IsErrOf result UsedUp → Lacks)

-- a call that makes a value is refused: because its turn does not end, or because each of 200 turns that it waited for was given up
abbrev pub IsTurnRefusal : CacheError → Type 0
IsTurnRefusal e = IsEndRefusal e ⊎ (e ≡ Abandoned)

-- a predicate is not accepted: for lack of memory or numbers, because the cache takes none, or because each identifier that was drawn is in
-- use
abbrev pub IsCoverRefusal : CacheError → Type 0
IsCoverRefusal InvalidationClosuresDisabled = Unit {0}
IsCoverRefusal IdsInUse = Unit {0}
IsCoverRefusal e = IsShortage e
