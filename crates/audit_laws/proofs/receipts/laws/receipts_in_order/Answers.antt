use Rattle.audit_laws.proofs.receipts.Parts.{in-order}
use Rattle.audit_laws.proofs.receipts.laws.receipts_in_order.Goals as goal

pub returns : goal.returns
returns c = in-order
