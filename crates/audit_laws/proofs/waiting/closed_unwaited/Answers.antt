use Rattle.audit_laws.proofs.waiting.Closed.{closed}
use Rattle.audit_laws.proofs.waiting.closed_unwaited.Goals as goal

pub returns : goal.returns
returns c = closed
