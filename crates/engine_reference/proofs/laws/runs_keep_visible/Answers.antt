use Rattle.engine_reference.proofs.StayingVisible.{runs_keep_visible}
use Rattle.engine_reference.proofs.laws.runs_keep_visible.Goals as goal

pub returns : goal.returns
returns g c = runs_keep_visible _ _ _ _ _
