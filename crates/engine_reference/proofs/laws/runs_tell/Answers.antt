use Rattle.engine_reference.proofs.TellingSteps.{runs_tell}
use Rattle.engine_reference.proofs.laws.runs_tell.Goals as goal

pub returns : goal.returns
returns g c = runs_tell _ _ _ _ _
