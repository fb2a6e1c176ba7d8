use Rattle.engine_tests.proofs.laws.Played.{rows_of_points}
use Rattle.engine_tests.proofs.laws.runs.rows_of_points.Goals as goal

pub returns : goal.returns
returns c = rows_of_points
