use Rattle.audit_laws.proofs.StaysOrderly.{orderly_stays}
use Rattle.audit_laws.proofs.orderly_stays.Goals as goal

pub returns : goal.returns
returns c = orderly_stays
