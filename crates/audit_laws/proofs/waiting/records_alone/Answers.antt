use Rattle.audit_laws.proofs.waiting.Events.{records}
use Rattle.audit_laws.proofs.waiting.records_alone.Goals as goal

pub returns : goal.returns
returns c = records
