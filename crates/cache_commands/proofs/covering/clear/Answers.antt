use Rattle.cache_commands.proofs.Answered.{answered-clear}
use Rattle.cache_commands.proofs.covering.clear.Goals as goal

pub returns-clause-ok : goal.returns-clause-ok
returns-clause-ok g c = answered-clear _ _ _ _ _ c.sound.ensures c.in_ok-clear.ensures.does (cc)
