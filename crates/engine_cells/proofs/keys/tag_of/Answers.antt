use Rattle.std.proofs.Common.{rules}
use Rattle.engine_cells.specs.Keys.Spots.{tag_of}
use Rattle.engine_cells.proofs.keys.tag_of.Goals as goal

pub returns : goal.returns
unfolding tag_of
returns c = search rules
