use Rattle.front_reference.proofs.laws.Staying.{calls_stay_close}
use Rattle.front_reference.proofs.laws.calls_stay_close.Goals as goal

pub returns : goal.returns
returns g c = calls_stay_close _ _ _ _ _
