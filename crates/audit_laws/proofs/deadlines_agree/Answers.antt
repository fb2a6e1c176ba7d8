use Rattle.audit_laws.proofs.Deadlines.{deadlines_agree}
use Rattle.audit_laws.proofs.deadlines_agree.Goals as goal

pub returns : goal.returns
returns c = deadlines_agree
