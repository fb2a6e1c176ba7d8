use Rattle.audit_laws.proofs.Cuts.{feeds_may_be_cut}
use Rattle.audit_laws.proofs.feeds_may_be_cut.Goals as goal

pub returns : goal.returns
returns c = feeds_may_be_cut
