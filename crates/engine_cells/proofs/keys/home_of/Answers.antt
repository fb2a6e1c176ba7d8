use Rattle.std.proofs.Common.{rules}
use Rattle.engine_cells.specs.Keys.Slots.{home_of}
use Rattle.engine_cells.proofs.keys.home_of.Goals as goal

pub returns-clause-value : goal.returns-clause-value
unfolding home_of
returns-clause-value c = search rules
