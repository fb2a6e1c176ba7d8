use Rattle.audit_laws.proofs.NoSize.{nothing_told_size}
use Rattle.audit_laws.proofs.nothing_told_size.Goals as goal

pub returns : goal.returns
returns c = nothing_told_size
