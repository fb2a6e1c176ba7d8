use Rattle.audit_laws.proofs.Journals.{leads-more}
use Rattle.audit_laws.proofs.leads_on.Goals as goal

pub returns : goal.returns
returns c = leads-more
