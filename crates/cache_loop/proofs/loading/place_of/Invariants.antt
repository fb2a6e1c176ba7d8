use Rattle.std.proofs.Common.{◌≡◌, take}
use Rattle.cache_loop.specs.Loads.{times_pending}
use Rattle.cache_loop.proofs.loading.place_of.Given as goal

abbrev pub invariant-loop-index : goal.invariant-loop-index
invariant-loop-index l = times_pending (take l.index l.pending) l.number ≡ 0
