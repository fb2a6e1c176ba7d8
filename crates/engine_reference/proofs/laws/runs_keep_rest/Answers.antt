use Rattle.engine_reference.proofs.RestKept.{runs_keep_rest}
use Rattle.engine_reference.proofs.laws.runs_keep_rest.Goals as goal

pub returns : goal.returns
returns g c = runs_keep_rest _ _ _ _ _
