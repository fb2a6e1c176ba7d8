use Rattle.engine_runs.proofs.Contests.{from-first, on-list}
use Rattle.engine_runs.proofs.contesting.first_place.Goals as goal

pub returns-clause-all : goal.returns-clause-all
returns-clause-all g c = from-first c.args.tables.now c.oldest.result c.oldest.ensures.first c.oldest.ensures.none

pub returns-clause-listed : goal.returns-clause-listed
returns-clause-listed g c = on-list c.args.tables.now c.args.tables.now.state.access c.oldest.result c.oldest.ensures.first
