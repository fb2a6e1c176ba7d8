use Rattle.audit_laws.proofs.RecordsAgree.{leads-to_summary}
use Rattle.audit_laws.proofs.records_lead.Goals as goal

pub returns : goal.returns
returns c = leads-to_summary
