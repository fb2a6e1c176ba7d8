use Rattle.audit_laws.proofs.Journals.{places_agree}
use Rattle.audit_laws.proofs.places_agree.Goals as goal

pub returns : goal.returns
returns c = places_agree
