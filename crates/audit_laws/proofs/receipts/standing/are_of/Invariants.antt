use Rattle.std.proofs.Common.{drop}
use Rattle.audit_laws.specs.Receipts.Receipts.{AreOf}
use Rattle.audit_laws.proofs.receipts.standing.are_of.Given as goal

abbrev pub invariant-loop-receipt : goal.invariant-loop-receipt
invariant-loop-receipt l = record {
  yes : AreOf l.namespace (drop l.receipt-index l.receipts) → AreOf l.namespace l.receipts;
  no : AreOf l.namespace l.receipts → AreOf l.namespace (drop l.receipt-index l.receipts);
}
