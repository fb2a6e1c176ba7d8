use Rattle.audit_laws.proofs.Belonging.{belongs_on}
use Rattle.audit_laws.proofs.belongs_on.Goals as goal

pub returns : goal.returns
returns c = belongs_on
