use Rattle.engine_pending.proofs.Agreeing.{pending_agrees}
use Rattle.engine_pending.proofs.laws.pending_agrees.Goals as goal

pub returns : goal.returns
returns g c = pending_agrees _ _ _ _ _ _ _
