use Rattle.engine_reference.proofs.TellingSteps.{nothing_taken_for_size}
use Rattle.engine_reference.proofs.laws.nothing_taken_for_size.Goals as goal

pub returns : goal.returns
returns g c = nothing_taken_for_size _ _ _ _ _
