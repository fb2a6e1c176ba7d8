use Rattle.std.proofs.Common.{drop}
use Rattle.audit_laws.specs.Receipts.Receipts.{StandFrom}
use Rattle.audit_laws.proofs.receipts.standing.receipts_stand.Given as goal

abbrev pub invariant-loop-receipt : goal.invariant-loop-receipt
invariant-loop-receipt l = record {
  yes : StandFrom l.last l.journal.records (drop l.receipt-index l.receipts) → StandFrom 0 l.journal.records l.receipts;
  no : StandFrom 0 l.journal.records l.receipts → StandFrom l.last l.journal.records (drop l.receipt-index l.receipts);
}
