-- Why calls of selectors are refused.
use Rattle.std.specs.Prelude.{Option, Some, None}
use Rattle.front_reference.specs.declared.data.TurnKind.{TurnKind}
use Rattle.front_reference.specs.declared.errors.CacheError.{CacheError}
use Rattle.sync_desk.specs.Slots.Refusals.{IsShortage, IsTurnRefusal}

-- a call that makes a value is refused: with a kind, as its turn is; without one, when it waits for nobody, only for lack of memory or
-- numbers
abbrev pub IsMakingRefusal : Option TurnKind → CacheError → Type 0
IsMakingRefusal None e = IsShortage e
IsMakingRefusal (Some kind) e = IsTurnRefusal e
