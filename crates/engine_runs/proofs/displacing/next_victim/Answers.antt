use Rattle.engine_runs.proofs.Displaced.{nothing-left}
use Rattle.engine_runs.proofs.displacing.next_victim.Goals as goal

pub returns-then-left-eq0-clause-none : goal.returns-then-left-eq0-clause-none
returns-then-left-eq0-clause-none g c = nothing-left c.args.tables.now.state c.args.left c.if-left-eq0.true
