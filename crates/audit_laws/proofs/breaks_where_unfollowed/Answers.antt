use Rattle.audit_laws.proofs.BreaksAgree.{breaks_where_unfollowed}
use Rattle.audit_laws.proofs.breaks_where_unfollowed.Goals as goal

pub returns : goal.returns
returns c = breaks_where_unfollowed
