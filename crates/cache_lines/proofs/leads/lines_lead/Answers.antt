use Rattle.cache_lines.proofs.leads.Leading.{framed, no-lines}
use Rattle.cache_lines.proofs.leads.lines_lead.Goals as goal

pub returns : goal.returns
returns c = record { some = framed; none = no-lines }
