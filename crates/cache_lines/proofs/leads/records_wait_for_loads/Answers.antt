use Rattle.cache_lines.proofs.leads.Waits.{records-wait}
use Rattle.cache_lines.proofs.leads.records_wait_for_loads.Goals as goal

pub returns : goal.returns
returns c = records-wait
