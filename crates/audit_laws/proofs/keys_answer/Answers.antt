use Rattle.audit_laws.proofs.Asking.{keys_answer}
use Rattle.audit_laws.proofs.keys_answer.Goals as goal

pub returns : goal.returns
returns c = keys_answer
