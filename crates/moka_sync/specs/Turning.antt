-- What a closure may make.
use Rattle.std.specs.Prelude.{◌≡◌, true, Result, Ok}
use Rattle.std.specs.declared.alloc.AllocError.{AllocError}
use Rattle.front_reference.specs.declared.data.Made.{Made}
use Rattle.front_reference.specs.declared.data.TurnKind.{TurnKind}
use Rattle.sync_desk.specs.Slots.Endings.{suits}

-- whatever a closure makes is a result with which a turn of the kind may end
abbrev pub MayMake : {V F : Type 0} → TurnKind → (Result (Made V F) AllocError → Type 0) → Type 0
MayMake {V} {F} kind Makes = (made : Made V F) → Makes (Ok made) → suits kind made ≡ true
