use Rattle.audit_laws.proofs.waiting.Records.{settled-tidy}
use Rattle.audit_laws.proofs.waiting.tidy_settled.Goals as goal

pub returns : goal.returns
returns c = settled-tidy
