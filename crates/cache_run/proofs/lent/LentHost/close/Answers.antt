use Rattle.std.proofs.Common.{arith}
use Rattle.cache_run.proofs.lent.LentHost.close.Goals as goal

pub returns : goal.returns
returns c = record { closes = c.close_if_open.ensures.closes; count = omega arith; known = c.close_if_open.ensures.known }
