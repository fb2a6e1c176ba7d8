use Rattle.front_parts.proofs.Answered.{operated-computes}
use Rattle.front_parts.proofs.computed.compute.Goals as goal

pub returns-in_ok-done-in-Ok-clause-computes : goal.returns-in_ok-done-in-Ok-clause-computes
returns-in_ok-done-in-Ok-clause-computes g c = operated-computes _ _ _ _ _ _ _ _ _ _ _ _ c.in_ok-seen.ensures c.in-Ok.ensures c.in_ok-done-in-Ok.ensures.operates
