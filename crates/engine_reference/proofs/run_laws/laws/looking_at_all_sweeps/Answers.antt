use Rattle.engine_reference.proofs.run_laws.Swept.{looking_at_all_sweeps}
use Rattle.engine_reference.proofs.run_laws.laws.looking_at_all_sweeps.Goals as goal

pub returns : goal.returns
returns g c = looking_at_all_sweeps _ _ _ _ _
