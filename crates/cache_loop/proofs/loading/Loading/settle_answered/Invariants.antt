use Rattle.std.proofs.Common.{◌≡◌}
use Rattle.cache_loop.specs.Loads.{SettlesEach, held}
use Rattle.cache_loop.proofs.loading.Loading.settle_answered.Given as goal

abbrev pub invariant-loop-answer : goal.invariant-loop-answer
invariant-loop-answer g l = record {
  each : SettlesEach g.H.Host.came g.H.Host.rests l.fn.self.conn (held l.fn.host.loads.items l.fn.self.pending.items) l.fn.place (held l.host.loads.items l.self.pending.items) l.place;
  conn : l.self.conn ≡ l.fn.self.conn;
}
