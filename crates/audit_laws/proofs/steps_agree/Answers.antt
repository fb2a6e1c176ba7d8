use Rattle.audit_laws.proofs.TranscriptsAgree.{steps_agree}
use Rattle.audit_laws.proofs.steps_agree.Goals as goal

pub returns : goal.returns
returns c = steps_agree
