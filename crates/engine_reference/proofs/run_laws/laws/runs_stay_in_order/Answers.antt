use Rattle.engine_reference.proofs.run_laws.Ordering.{runs_stay_in_order}
use Rattle.engine_reference.proofs.run_laws.laws.runs_stay_in_order.Goals as goal

pub returns : goal.returns
returns g c = runs_stay_in_order _ _ _ _ _
