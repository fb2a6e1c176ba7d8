use Rattle.audit_laws.proofs.Asking.{asking_changes_nothing}
use Rattle.audit_laws.proofs.asking_changes_nothing.Goals as goal

pub returns : goal.returns
returns c = asking_changes_nothing
