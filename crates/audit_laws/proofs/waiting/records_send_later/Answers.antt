use Rattle.audit_laws.proofs.waiting.Sending.{send-later}
use Rattle.audit_laws.proofs.waiting.records_send_later.Goals as goal

pub returns : goal.returns
returns c = send-later
