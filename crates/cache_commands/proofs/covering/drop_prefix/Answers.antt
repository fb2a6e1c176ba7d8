use Rattle.cache_commands.proofs.Answered.{answered-dropped, answered-lacking}
use Rattle.cache_commands.proofs.covering.drop_prefix.Goals as goal

pub returns-then-branch-clause-ok : goal.returns-then-branch-clause-ok
returns-then-branch-clause-ok g c = answered-dropped _ _ _ _ _ _ c.sound.ensures (c.in_ok-drop_prefix.ensures.does c.if-branch.true) (cc)

pub returns-else-branch-clause-ok : goal.returns-else-branch-clause-ok
returns-else-branch-clause-ok g c = answered-lacking _ _ _ _ _ _ c.sound.ensures c.requires.0 (c.in_ok-drop_prefix.ensures.lacks c.if-branch.false) (cc)
