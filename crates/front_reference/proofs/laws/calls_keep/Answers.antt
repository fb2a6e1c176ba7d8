use Rattle.front_reference.proofs.laws.Kept.{calls_keep}
use Rattle.front_reference.proofs.laws.calls_keep.Goals as goal

pub returns : goal.returns
returns g c = calls_keep _ _ _ _ _
