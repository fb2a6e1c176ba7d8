use Rattle.audit_laws.proofs.BreaksAgree.{breaks_agree}
use Rattle.audit_laws.proofs.breaks_agree.Goals as goal

pub returns : goal.returns
returns c = breaks_agree
