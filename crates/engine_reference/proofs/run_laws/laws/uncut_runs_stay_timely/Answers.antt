use Rattle.engine_reference.proofs.run_laws.Rises.{uncut_runs_stay_timely}
use Rattle.engine_reference.proofs.run_laws.laws.uncut_runs_stay_timely.Goals as goal

pub returns : goal.returns
returns g c = uncut_runs_stay_timely _ _ _ _ _
