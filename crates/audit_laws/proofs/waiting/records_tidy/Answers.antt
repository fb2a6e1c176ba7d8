use Rattle.audit_laws.proofs.waiting.Records.{records}
use Rattle.audit_laws.proofs.waiting.records_tidy.Goals as goal

pub returns : goal.returns
returns c = records
