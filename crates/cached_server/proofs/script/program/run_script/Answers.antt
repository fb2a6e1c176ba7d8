use Rattle.cached_server.proofs.script.Ending.{ends-alone}
use Rattle.cached_server.proofs.script.Scripting.{both-ok, script-served, where-ok}
use Rattle.cached_server.proofs.script.Stopping.{script-stopped}
use Rattle.cached_server.specs.declared.script.faults.Fault.TheVariants as fault
use Rattle.cached_server.proofs.script.program.run_script.Goals as goal

pub returns-in-Ok-and-clause-served : goal.returns-in-Ok-and-clause-served
returns-in-Ok-and-clause-served g c = λ zero.
    let well = both-ok c.run-ran.result c.tell_notes-told.result c.and.result _ c.and.ensures c.in-Ok-and.is in
    script-served _ _ _ _ _ _ _ _ _ _ _ c.in-Ok-new.service c.run-ran.new.service _ c.in-Ok-new.ensures.made c.sound.ensures (where-ok c.run-ran.result well.0 c.run-ran.ensures.ok)
    (where-ok c.tell_notes-told.result well.1 c.tell_notes-told.ensures.told)

pub returns-in_default-clause-stopped : goal.returns-in_default-clause-stopped
returns-in_default-clause-stopped g c = λ one. ends-alone _ _ _ _ fault.OutOfMemory _ _ _ _ tt c.fail.ensures.told

pub returns-in_default-new-clause-stopped : goal.returns-in_default-new-clause-stopped
returns-in_default-new-clause-stopped g c = λ one. ends-alone _ _ _ _ fault.OutOfMemory _ _ _ _ tt c.fail-in_default-new.ensures.told

pub returns-clause-stopped : goal.returns-clause-stopped
returns-clause-stopped g c = λ one.
    script-stopped _ _ _ _ _ c.run-ran.result c.tell_notes-told.result c.and.result _ _ _ _ _ c.and.ensures c.in-Err.is c.run-ran.ensures.read c.run-ran.ensures.write c.tell_notes-told.ensures.cause c.fail-in-Err.ensures.later c.fault_of.ensures c.fail-in-Err.ensures.told
