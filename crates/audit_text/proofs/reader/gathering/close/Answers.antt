use Rattle.std.proofs.Common.{sym, subst}
use Rattle.std.specs.Prelude.{option_map}
use Rattle.audit_text.specs.Reader.Gathering.{IsMade, closed_record}
use Rattle.audit_text.proofs.reader.Finished.{fault-step}
use Rattle.audit_text.proofs.reader.gathering.close.Goals as goal

pub returns-clause-said : goal.returns-clause-said
returns-clause-said c = subst (λ o. IsMade (option_map closed_record o) c.close_record.result c.close_record.new.gathered) (sym c.in_ok-close_step.ensures.said) c.close_record.ensures.said
