use Rattle.audit_laws.proofs.Belonging.{belongs_step_by_step}
use Rattle.audit_laws.proofs.belongs_step_by_step.Goals as goal

pub returns : goal.returns
returns c = belongs_step_by_step
