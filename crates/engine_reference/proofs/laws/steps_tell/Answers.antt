use Rattle.engine_reference.proofs.TellingSteps.{steps_tell}
use Rattle.engine_reference.proofs.laws.steps_tell.Goals as goal

pub returns : goal.returns
returns g c = steps_tell _ _ _ _ _
