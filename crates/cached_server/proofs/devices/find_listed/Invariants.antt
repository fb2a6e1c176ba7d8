use Rattle.std.proofs.Common.{◌≡◌, drop}
use Rattle.cached_server.specs.Loads.{listed_outcome}
use Rattle.cached_server.proofs.devices.find_listed.Given as goal

abbrev pub invariant-loop-listed : goal.invariant-loop-listed
invariant-loop-listed l = listed_outcome l.loads l.key ≡ listed_outcome (drop l.listed-index l.loads) l.key
