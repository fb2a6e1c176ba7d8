use Rattle.cache_commands.proofs.Answered.{answered-del}
use Rattle.cache_commands.proofs.commands.del.Goals as goal

pub returns-clause-ok : goal.returns-clause-ok
returns-clause-ok g c = answered-del _ _ _ _ _ _ c.sound.ensures c.in_ok-remove.ensures.does (cc)
