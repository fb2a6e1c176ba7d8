use Rattle.front_reference.proofs.laws.Kept.{coalesces_keep}
use Rattle.front_reference.proofs.laws.coalesces_keep.Goals as goal

pub returns : goal.returns
returns g c = coalesces_keep _ _ _ _ _ _
