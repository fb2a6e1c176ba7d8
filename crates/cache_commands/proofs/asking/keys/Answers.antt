use Rattle.cache_commands.proofs.Answered.{answered-keys}
use Rattle.cache_commands.proofs.asking.keys.Goals as goal

pub returns-clause-ok : goal.returns-clause-ok
returns-clause-ok g c = answered-keys _ c.count_live.result _ _ c.write_number_of_keys.new.output.items _ c.sound.ensures c.requires.0 c.count_live.ensures (cc) c.in_default.ensures.written
