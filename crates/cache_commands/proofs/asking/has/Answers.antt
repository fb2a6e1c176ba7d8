use Rattle.cache_commands.proofs.Answered.{answered-no, answered-yes}
use Rattle.cache_commands.proofs.Adding.{follows}
use Rattle.cache_commands.proofs.asking.has.Goals as goal

pub returns-in-Some-clause-ok : goal.returns-in-Some-clause-ok
returns-in-Some-clause-ok g c =
    follows c.write_short.result (λ w. answered-yes _ _ c.in-Some.field-0.now _ _ _ c.sound.ensures c.requires.0 c.in-Some.ensures w) c.write_short.ensures.written

pub returns-in-None-clause-ok : goal.returns-in-None-clause-ok
returns-in-None-clause-ok g c = follows c.write_short-in-None.result (λ w. answered-no _ _ _ _ _ c.sound.ensures c.requires.0 c.in-None.ensures w) c.write_short-in-None.ensures.written
