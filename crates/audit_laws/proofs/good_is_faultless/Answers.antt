use Rattle.audit_laws.proofs.Faultless.{good_is_faultless}
use Rattle.audit_laws.proofs.good_is_faultless.Goals as goal

pub returns : goal.returns
returns c = good_is_faultless
