use Rattle.front_reference.proofs.laws.Kept.{runs_leave_none_idle}
use Rattle.front_reference.proofs.laws.runs_leave_none_idle.Goals as goal

pub returns : goal.returns
returns g c = runs_leave_none_idle _ _ _ _ _
