use Rattle.cache_lines.proofs.leads.Settling.{answer-tidy, give-up-tidy, told-waits}
use Rattle.cache_lines.proofs.leads.told_waits.Goals as goal

pub returns : goal.returns
returns c = record { answer = answer-tidy; give_up = give-up-tidy; waits = told-waits }
