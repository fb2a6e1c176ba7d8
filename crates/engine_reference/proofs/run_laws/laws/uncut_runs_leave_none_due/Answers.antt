use Rattle.engine_reference.proofs.run_laws.Rises.{uncut_runs_leave_none_due}
use Rattle.engine_reference.proofs.run_laws.laws.uncut_runs_leave_none_due.Goals as goal

pub returns : goal.returns
returns g c = uncut_runs_leave_none_due _ _ _ _ _
