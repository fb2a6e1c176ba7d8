use Rattle.std.proofs.Common.{◌≡◌, ◌++◌, drop}
use Rattle.engine_cells.specs.Listing.{keys_in}
use Rattle.engine_cells.proofs.listing.push_keys.Given as goal

abbrev pub invariant-loop-stand : goal.invariant-loop-stand
invariant-loop-stand g l = l.keys.items ++ keys_in l.cells.slots (drop l.stand-index l.found) ≡ keys_in l.cells.slots l.found
