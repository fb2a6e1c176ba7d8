use Rattle.engine_reference.proofs.run_laws.Fronting.{runs_evict_shortest_front}
use Rattle.engine_reference.proofs.run_laws.laws.runs_evict_shortest_front.Goals as goal

pub returns : goal.returns
returns g c = runs_evict_shortest_front _ _ _ _ _
