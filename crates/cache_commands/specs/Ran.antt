-- What a line did.
use Rattle.std.specs.Prelude.{◌≡◌, ℕ, Bool, true, false, List, None, Ok}
use Rattle.audit_lines.specs.Request.{IsOwn}
use Rattle.audit_model.specs.Grammar.{Reading}
use Rattle.audit_model.specs.declared.config.Config.{Config}
use Rattle.cache_commands.specs.Values.{IsLive, Values}
use Rattle.audit_model.specs.declared.command.Command.TheVariants as says
use Rattle.audit_lines.specs.declared.request.Request.{Request}
use Rattle.audit_lines.specs.declared.request.Request.TheVariants.{Set, Get, Has, Load, Del, Add, Clear, DropIf, Keys, Sync, Quit, Fault}
use Rattle.cache_commands.specs.Answered.{IsAnswered, IsTakable}
use Rattle.cache_commands.specs.declared.running.Ran.{Ran}
use Rattle.cache_commands.specs.declared.running.Ran.TheVariants.{Answered, Misses}

-- a request whose words a store accepts
abbrev pub FitsStore : Config → Request → Type 0
FitsStore config (Set key deadline value) = IsTakable config value.now deadline
FitsStore config (Add key deadline number) = IsOwn config deadline
FitsStore config (Get key) = Unit {0}
FitsStore config (Has key) = Unit {0}
FitsStore config (Load key) = Unit {0}
FitsStore config (Del key) = Unit {0}
FitsStore config Clear = Unit {0}
FitsStore config (DropIf prefix) = Unit {0}
FitsStore config Keys = Unit {0}
FitsStore config Sync = Unit {0}
FitsStore config Quit = Unit {0}
FitsStore config (Fault error) = Unit {0}

-- a `LOAD` of a key that has no live value, which wrote nothing
pub record MissesLive (now : ℕ) (reading : Reading) (was is : Values) (old new : List ℕ) :
    Type 0 where
  pub key : List ℕ
  pub reads : reading ≡ Ok (says.Load key)
  pub none : IsLive was now key None
  pub unwritten : new ≡ old

-- a line that reads like this was answered, or misses
abbrev pub RunsRequest : ℕ → Reading → Ran → Values → Values → List ℕ → List ℕ → Type 0
RunsRequest now reading (Answered accepted) was is old new =
    IsAnswered now reading accepted was is old new
RunsRequest now reading Misses was is old new = MissesLive now reading was is old new

-- it changed nothing
abbrev pub rests : Ran → Bool
rests (Answered accepted) = false
rests Misses = true
