use Rattle.audit_laws.proofs.Stages.{steps_in_parts}
use Rattle.audit_laws.proofs.steps_in_parts.Goals as goal

pub returns : goal.returns
returns c = steps_in_parts
