use Rattle.cache_lines.proofs.leads.Settling.{abandoned, answered, held_back, waits_again}
use Rattle.cache_lines.proofs.leads.run_again_leads.Goals as goal

pub returns : goal.returns
returns c = record { answered = answered; waits = waits_again; held = held_back; abandoned = abandoned }
