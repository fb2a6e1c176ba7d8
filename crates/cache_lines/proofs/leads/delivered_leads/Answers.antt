use Rattle.cache_lines.proofs.leads.Settling.{delivered}
use Rattle.cache_lines.proofs.leads.delivered_leads.Goals as goal

pub returns : goal.returns
returns c = delivered
