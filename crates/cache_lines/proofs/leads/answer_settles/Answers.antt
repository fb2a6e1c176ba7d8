use Rattle.cache_lines.proofs.leads.Settling.{answer}
use Rattle.cache_lines.proofs.leads.answer_settles.Goals as goal

pub returns : goal.returns
returns c = answer
