use Rattle.audit_laws.proofs.Journals.{obeys-led}
use Rattle.audit_laws.proofs.led_obeys.Goals as goal

pub returns : goal.returns
returns c = obeys-led
