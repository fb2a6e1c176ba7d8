use Rattle.std.proofs.Common.{[]}
use Rattle.cached_server.proofs.script.Twice.{tells-alone}
use Rattle.cached_server.specs.declared.script.faults.Fault.TheVariants as fault
use Rattle.cached_server.proofs.program.serve_config.Goals as goal

pub returns-in-Ok-clause-told : goal.returns-in-Ok-clause-told
returns-in-Ok-clause-told g c = (fault.UsedUp, [], λ e. cc, tells-alone _ _ _ _ _ c.fail.ensures.told)
