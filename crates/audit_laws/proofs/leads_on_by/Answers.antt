use Rattle.audit_laws.proofs.Journals.{leads_by-more}
use Rattle.audit_laws.proofs.leads_on_by.Goals as goal

pub returns : goal.returns
returns c = leads_by-more
