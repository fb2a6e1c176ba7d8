use Rattle.std.proofs.Common.{◌≡◌, ◌++◌, drop}
use Rattle.engine_cells.specs.Listing.{stands_from}
use Rattle.engine_cells.proofs.listing.push_all.Given as goal

abbrev pub invariant-loop-place : goal.invariant-loop-place
invariant-loop-place g l = l.found.items ++ stands_from l.place (drop l.place l.cells.slots) ≡ stands_from 0 l.cells.slots
