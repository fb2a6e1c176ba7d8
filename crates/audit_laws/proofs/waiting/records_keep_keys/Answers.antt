use Rattle.audit_laws.proofs.waiting.Keys.{keeps}
use Rattle.audit_laws.proofs.waiting.records_keep_keys.Goals as goal

pub returns : goal.returns
returns c = keeps
