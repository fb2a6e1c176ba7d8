use Rattle.audit_laws.proofs.BreaksAgree.{first_break_is_first}
use Rattle.audit_laws.proofs.first_break_is_first.Goals as goal

pub returns : goal.returns
returns c = first_break_is_first
