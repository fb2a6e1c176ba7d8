use Rattle.front_parts.proofs.Answered.{removes-operates}
use Rattle.front_parts.proofs.computed.operate.Goals as goal

pub returns-in_ok-removed-in-Remove-clause-operates : goal.returns-in_ok-removed-in-Remove-clause-operates
returns-in_ok-removed-in-Remove-clause-operates g c = removes-operates _ _ _ _ _ _ _ _ _ _ _ c.in-Remove.is c.in_ok-removed-in-Remove.ensures.removes c.shown_removed.ensures.shown
