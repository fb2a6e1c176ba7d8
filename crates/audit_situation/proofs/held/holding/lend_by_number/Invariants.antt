use Rattle.audit_situation.proofs.held.Lending.{Lending}
use Rattle.audit_situation.proofs.held.holding.lend_by_number.Given as goal

abbrev pub invariant-loop-key : goal.invariant-loop-key
invariant-loop-key l = Lending l.keys l.marks l.table l.key-iterator l.lent.entries
