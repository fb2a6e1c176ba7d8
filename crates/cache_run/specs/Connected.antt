-- The state of a connection in its namespace.
use Rattle.std.specs.Prelude.{◌≡◌, ℕ, [], Option, None, Some, ◌⊎◌}
use Rattle.audit_model.specs.Situation.{Situation}
use Rattle.audit_model.specs.declared.command.Closing.{Closing}
use Rattle.audit_model.specs.declared.command.Closing.TheVariants as by
use Rattle.cache_spaces.specs.Spaces.{StandsFor, closing_of, untaken_output}
use Rattle.cache_spaces.specs.Services.{BareSpace}

-- the namespace stands for some situation
pub record HasSituation (space : BareSpace) : Type 0 where
  pub some : Situation
  pub stands : StandsFor space some

-- it was closed by what it was fed: a line that is too long, a `QUIT`, or too many bytes after a `LOAD` that waits
abbrev pub IsEnded : Option Closing → Type 0
IsEnded closing = (closing ≡ Some by.Long) ⊎ (closing ≡ Some by.Quit) ⊎ (closing ≡ Some by.Behind)

-- it is open, or was closed by what it was fed
abbrev pub IsOpenOrEnded : Option Closing → Type 0
IsOpenOrEnded closing = (closing ≡ None) ⊎ IsEnded closing

-- it may have been closed by what it was fed
abbrev pub IsFed : ℕ → BareSpace → Type 0
IsFed number space = IsOpenOrEnded (closing_of space number)

-- and its replies were taken
abbrev pub HasTakenReplies : ℕ → BareSpace → Type 0
HasTakenReplies number space = IsFed number space × (untaken_output space number ≡ [])
