use Rattle.engine_tests.proofs.running.Newly.{all-new_sound}
use Rattle.engine_tests.proofs.running.runs.tables_of.Goals as goal

pub returns : goal.returns
returns c = all-new_sound _ _ _ _ _ c.new.ensures
