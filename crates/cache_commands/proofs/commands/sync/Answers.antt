use Rattle.cache_commands.proofs.Answered.{answered-sync}
use Rattle.cache_commands.proofs.commands.sync.Goals as goal

pub returns-clause-ok : goal.returns-clause-ok
returns-clause-ok g c = answered-sync _ c.run_all-counts.result.number c.run_all-counts.result.weight _ _ _ _ c.sound.ensures c.run_all-counts.ensures.does c.run_all-counts.ensures.settled (cc)
