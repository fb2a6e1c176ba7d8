use Rattle.std.proofs.Common.{take}
use Rattle.cache_spaces.specs.Calls.{At}
use Rattle.cache_run.specs.Loading.{is_left}
use Rattle.cache_run.specs.Lent.{Drops, IsConnection}
use Rattle.cache_run.proofs.drops.drop_all.Given as goal

abbrev pub invariant-loop-load : goal.invariant-loop-load
invariant-loop-load l = record {
  dropped : At l.fn.service l.service l.fn.conn.namespace (Drops l.fn.conn.number (λ n. is_left n (take l.load-index l.loads)));
  known : IsConnection l.fn.conn l.service;
}
