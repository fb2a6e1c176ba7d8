use Rattle.cache_commands.proofs.Answered.{answered-quit}
use Rattle.cache_commands.proofs.Adding.{follows}
use Rattle.cache_commands.proofs.asking.quit.Goals as goal

pub returns-clause-ok : goal.returns-clause-ok
returns-clause-ok g c = follows c.write_short.result (λ w now moment. answered-quit now _ _ _ c.sound.ensures moment.0 w) c.write_short.ensures.written
