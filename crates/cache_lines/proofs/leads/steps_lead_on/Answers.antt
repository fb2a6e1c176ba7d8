use Rattle.cache_lines.proofs.leads.Leading.{nothing, on, tidy}
use Rattle.cache_lines.proofs.leads.steps_lead_on.Goals as goal

pub returns : goal.returns
returns c = record { nothing = nothing; on = on; tidy = tidy }
