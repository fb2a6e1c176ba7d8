use Rattle.audit_laws.proofs.waiting.Apart.{records}
use Rattle.audit_laws.proofs.waiting.records_apart.Goals as goal

pub returns : goal.returns
returns c = records
