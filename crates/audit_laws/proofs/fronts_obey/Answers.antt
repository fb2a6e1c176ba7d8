use Rattle.audit_laws.proofs.Fronts.{front_obeys}
use Rattle.audit_laws.proofs.fronts_obey.Goals as goal

pub returns : goal.returns
returns c = front_obeys
