use Rattle.audit_laws.proofs.CutObeying.{obeying_may_be_cut}
use Rattle.audit_laws.proofs.obeying_may_be_cut.Goals as goal

pub returns : goal.returns
returns c = obeying_may_be_cut
