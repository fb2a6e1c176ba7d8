use Rattle.engine_reference.proofs.run_laws.Justly.{size_has_point}
use Rattle.engine_reference.proofs.run_laws.laws.size_has_point.Goals as goal

pub returns : goal.returns
returns g c = size_has_point _ _ _ _ _
