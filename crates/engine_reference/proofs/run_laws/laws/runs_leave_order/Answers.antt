use Rattle.engine_reference.proofs.run_laws.Rises.{runs_leave_order}
use Rattle.engine_reference.proofs.run_laws.laws.runs_leave_order.Goals as goal

pub returns : goal.returns
returns g c = runs_leave_order _ _ _ _ _
