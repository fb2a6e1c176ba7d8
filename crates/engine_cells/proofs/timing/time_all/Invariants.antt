use Rattle.engine_cells.proofs.Awaits.{AreTimed}
use Rattle.engine_cells.proofs.timing.time_all.Given as goal

abbrev pub invariant-loop-place : goal.invariant-loop-place
invariant-loop-place g l = AreTimed l.cells.slots l.expirations l.place
