use Rattle.audit_laws.proofs.Asking.{idle_keeps}
use Rattle.audit_laws.proofs.idle_keeps.Goals as goal

pub returns : goal.returns
returns c = idle_keeps
