use Rattle.std.proofs.Common.{ap, ◌∙◌, ◌++◌}
use Rattle.cache_commands.proofs.Answered.{answered-fault}
use Rattle.cache_commands.proofs.Adding.{follows}
use Rattle.cache_commands.proofs.commands.fault.Goals as goal

pub returns-clause-ok : goal.returns-clause-ok
returns-clause-ok g c =
    follows c.write_short.result (λ w now moment. answered-fault now _ _ _ _ c.sound.ensures moment.0 (w ∙ ap (λ xs. c.args.output.now.items ++ xs) c.text_of.ensures.text)) c.write_short.ensures.written
