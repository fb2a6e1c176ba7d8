use Rattle.audit_laws.proofs.Living.{live_by_acceptance}
use Rattle.audit_laws.proofs.live_by_acceptance.Goals as goal

pub returns : goal.returns
returns c = live_by_acceptance
