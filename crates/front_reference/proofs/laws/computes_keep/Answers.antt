use Rattle.front_reference.proofs.laws.Kept.{computes_keep}
use Rattle.front_reference.proofs.laws.computes_keep.Goals as goal

pub returns : goal.returns
returns g c = computes_keep _ _ _ _ _ _
