use Rattle.std.proofs.Common.{length}
use Rattle.engine_cells.proofs.keys.Putting.{HasFirst}
use Rattle.engine_cells.proofs.keys.put_all.Given as goal

abbrev pub invariant-loop-k : goal.invariant-loop-k
invariant-loop-k l = HasFirst l.others.items l.slots.items (length l.initial.slots.items) l.k
