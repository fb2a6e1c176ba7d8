use Rattle.engine_tests.proofs.laws.Played.{rows_of_sweeping}
use Rattle.engine_tests.proofs.laws.runs.rows_of_sweeping.Goals as goal

pub returns : goal.returns
returns c = rows_of_sweeping
