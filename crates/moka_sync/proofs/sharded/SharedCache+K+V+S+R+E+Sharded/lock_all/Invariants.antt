use Rattle.std.proofs.Common.{◌≡◌, vec_len}
use Rattle.std.specs.Sync.Mutex.{mutex_guard_value}
use Rattle.moka_sync.specs.Holding.{BearTheirPlaces}
use Rattle.moka_sync.proofs.sharded.«SharedCache+K+V+S+R+E+Sharded».lock_all.Given as goal

abbrev pub invariant-loop-number : goal.invariant-loop-number
invariant-loop-number g l = record {
  many : vec_len l.guards ≡ l.number;
  numbered : BearTheirPlaces l.guards.items (λ guard. (mutex_guard_value guard).number);
}
