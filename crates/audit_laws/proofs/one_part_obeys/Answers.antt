use Rattle.audit_laws.proofs.OnePart.{one-part-obeys}
use Rattle.audit_laws.proofs.one_part_obeys.Goals as goal

pub returns : goal.returns
returns c = one-part-obeys
