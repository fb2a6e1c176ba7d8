use Rattle.cache_core.specs.Turned.{feeding}
use Rattle.cache_run.proofs.Driving.{known-served}
use Rattle.cache_run.proofs.giving.feed_piece.Goals as goal

pub returns-in-Ok-All-clause-known : goal.returns-in-Ok-All-clause-known
returns-in-Ok-All-clause-known c = known-served _ _ _ _ (feeding c.args.conn.number c.args.piece.now c.args.moment) _ c.sound.ensures c.in-Ok-All.ensures.taken c.requires.known

pub returns-in-Ok-Held-clause-known : goal.returns-in-Ok-Held-clause-known
returns-in-Ok-Held-clause-known c = known-served _ _ _ _ (feeding c.args.conn.number c.args.piece.now c.args.moment) _ c.sound.ensures c.in-Ok-Held.ensures.taken c.requires.known
