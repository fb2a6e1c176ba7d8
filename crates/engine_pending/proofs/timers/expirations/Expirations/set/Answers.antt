use Rattle.engine_pending.proofs.timers.Showing.{is-set}
use Rattle.engine_pending.proofs.timers.expirations.Expirations.set.Goals as goal

pub returns-clause-set : goal.returns-clause-set
returns-clause-set c = is-set _ c.args.place c.args.time (λ t e whole. c.set-is_set.ensures.timed t e (c.both-self-inside.ensures.second whole))
