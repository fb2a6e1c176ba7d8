use Rattle.audit_laws.proofs.waiting.Sending.{settle}
use Rattle.audit_laws.proofs.waiting.records_settle.Goals as goal

pub returns : goal.returns
returns c = settle
