use Rattle.engine_reference.proofs.SoundSteps.{runs_stay_sound}
use Rattle.engine_reference.proofs.laws.runs_stay_sound.Goals as goal

pub returns : goal.returns
returns g c = runs_stay_sound _ _ _ _ _
