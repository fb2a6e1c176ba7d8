use Rattle.cache_lines.proofs.leads.Settling.{give-up}
use Rattle.cache_lines.proofs.leads.give_up_settles.Goals as goal

pub returns : goal.returns
returns c = give-up
