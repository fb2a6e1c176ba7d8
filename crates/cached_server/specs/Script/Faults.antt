-- The texts of the program's faults.
use Rattle.std.specs.Prelude.{◌≡◌, ◌≢◌, ◌≤◌, ◌⊎◌, ◌++◌, ℕ, List, [], Option, None, Some, codes}
use Rattle.cache_run.specs.Devices.Failures.{HasFailed}
use Rattle.cache_run.specs.Devices.Sent.{SentBut}
use Rattle.cache_run.specs.Devices.Watched.{device, failures}
use Rattle.cache_run.specs.Driver.Causes.{Fails}
use Rattle.cache_run.specs.declared.devices.errors.RunError.{RunError}
use Rattle.cache_run.specs.declared.devices.errors.RunError.TheVariants as run
use Rattle.cache_run.specs.declared.devices.watched.Watched.{Watched}
use Rattle.cached_config.specs.declared.listed.ConfigError.{ConfigError}
use Rattle.cached_config.specs.declared.listed.ConfigError.TheVariants as config
use Rattle.cached_server.specs.declared.script.faults.Fault.{Fault}
use Rattle.cached_server.specs.declared.script.faults.Fault.TheVariants as fault

-- the text of a fault, with its line end
abbrev pub fault_message : Fault → List ℕ
fault_message fault.Read = codes "cached: read failed\n"
fault_message fault.Write = codes "cached: write failed\n"
fault_message fault.OutOfMemory = codes "cached: out of memory\n"
fault_message fault.UsedUp = codes "cached: used up\n"
fault_message fault.BadConfiguration = codes "cached: bad configuration\n"
fault_message fault.CannotListen = codes "cached: cannot listen\n"

-- the fault for which a connection ended
abbrev pub fault_after : RunError → Fault
fault_after run.Read = fault.Read
fault_after run.Write = fault.Write
fault_after run.OutOfMemory = fault.OutOfMemory
fault_after run.UsedUp = fault.UsedUp
fault_after run.Moment = fault.UsedUp

-- the fault for which a file is not taken
abbrev pub fault_for : ConfigError → Fault
fault_for (config.Bad first) = fault.BadConfiguration
fault_for config.OutOfMemory = fault.OutOfMemory

-- how the program is called
abbrev pub usage_text : List ℕ
usage_text = codes "usage: cached --script | --config FILE\n"

-- A prefix of the text was written; all of it, unless the stream failed.
pub record WritesPrefix (text : List ℕ) (before after : Option (List ℕ)) (failed later : ℕ) : Type 0 where
  pub rest : List ℕ
  pub sent : SentBut rest text before after
  pub cut : rest ≢ [] → HasFailed failed later

-- the program ends with this status, and this text was written
abbrev pub EndsTelling : {E : Type 0} → (E → Option (List ℕ)) → (status wanted : ℕ) → List ℕ
    → Watched E → Watched E → Type 0
EndsTelling contents status wanted text errors errors' =
    (status ≡ wanted) × WritesPrefix text (contents (device errors)) (contents (device errors'))
    (failures errors) (failures errors')

-- what causes a fault: of a read, of a write, of a number, of a server; memory may always run out
abbrev pub HasCause : (read write used_up serves : Type 0) → Fault → Type 0
HasCause read write used_up serves fault.Read = read
HasCause read write used_up serves fault.Write = write
HasCause read write used_up serves fault.OutOfMemory = Unit {0}
HasCause read write used_up serves fault.UsedUp = used_up
HasCause read write used_up serves fault.BadConfiguration = serves
HasCause read write used_up serves fault.CannotListen = serves

-- It ended for a fault that has its cause. Last the text of the fault was written, and of a server also what caused it.
pub record EndsByFault (read write used_up serves : Type 0) (told : Option (List ℕ)) (failed : ℕ) :
    Type 0 where
  pub fault : Fault
  pub cause : HasCause read write used_up serves fault
  pub more : List ℕ
  pub alone : more ≢ [] → serves
  pub behind : Option (List ℕ)
  pub before : ℕ
  pub tells : WritesPrefix (fault_message fault ++ more) behind told before failed

-- why a script ends with status 1: reading it, or writing its replies or notes, failed, or memory or a number ran out
abbrev pub EndsScriptBy : {R W E : Type 0} → (E → Option (List ℕ)) → Watched R → Watched R
    → Watched W → Watched W → Watched E → Watched E → Type 0
EndsScriptBy contents reader reader' writer writer' errors errors' =
    EndsByFault (Fails reader reader') (Fails writer writer' ⊎ Fails errors errors') (Unit {0}) ⊥
    (contents (device errors')) (failures errors')

-- why the program ends with status 1, by what was asked for: of bad words only because memory ran out; of a server never for its input
abbrev pub EndsCallBy : {R W E : Type 0} → Option (Option (List ℕ)) → (E → Option (List ℕ))
    → Watched R → Watched R → Watched W → Watched W → Watched E → Watched E → Type 0
EndsCallBy None contents reader reader' writer writer' errors errors' =
    EndsByFault ⊥ ⊥ ⊥ ⊥ (contents (device errors')) (failures errors')
EndsCallBy (Some None) contents reader reader' writer writer' errors errors' =
    EndsScriptBy contents reader reader' writer writer' errors errors'
EndsCallBy (Some (Some path)) contents reader reader' writer writer' errors errors' =
    EndsByFault ⊥ (Unit {0}) (Unit {0}) (Unit {0}) (contents (device errors')) (failures errors')

-- the statuses, by what was asked for: 2 only of bad words, 0 only of a script
abbrev pub MayEnd : Option (Option (List ℕ)) → ℕ → Type 0
MayEnd None status = (status ≡ 1) ⊎ (status ≡ 2)
MayEnd (Some None) status = status ≤ 1
MayEnd (Some (Some path)) status = status ≡ 1
