use Rattle.audit_laws.proofs.waiting.Turns.{steps}
use Rattle.audit_laws.proofs.waiting.steps_tidy.Goals as goal

pub returns : goal.returns
returns c = steps
