use Rattle.audit_laws.proofs.waiting.Closed.{given-up}
use Rattle.audit_laws.proofs.waiting.gives_up_unwaited.Goals as goal

pub returns : goal.returns
returns c = given-up
