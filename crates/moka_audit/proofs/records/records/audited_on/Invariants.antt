use Rattle.std.proofs.Common.{◌≡◌, drop, true}
use Rattle.audit_situation.specs.States.{shown_situation}
use Rattle.moka_audit.specs.Records.Auditing.{audited_from}
use Rattle.moka_audit.specs.Records.Tidy.{is_tidy}
use Rattle.moka_audit.proofs.records.records.audited_on.Given as goal

abbrev pub invariant-loop-i : goal.invariant-loop-i
invariant-loop-i l = record {
  same : audited_from l.config l.initial.parts (shown_situation l.initial.s) 0 l.records ≡ audited_from l.config l.parts (shown_situation l.s) l.i (drop l.i l.records);
  tidy : is_tidy (shown_situation l.s) ≡ true;
}
