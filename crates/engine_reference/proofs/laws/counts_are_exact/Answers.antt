use Rattle.engine_reference.proofs.SoundSteps.{counts_are_exact}
use Rattle.engine_reference.proofs.laws.counts_are_exact.Goals as goal

pub returns : goal.returns
returns g c = counts_are_exact _ _ _ _ _
