use Rattle.std.proofs.Common.{◌≡◌}
use Rattle.cache_loop.specs.Loads.{SettlesEach, held}
use Rattle.cache_loop.proofs.loading.Loading.give_up_late.Given as goal

abbrev pub invariant-loop-late : goal.invariant-loop-late
invariant-loop-late g l = record {
  each : SettlesEach g.H.Host.came g.H.Host.rests l.fn.self.conn (held l.fn.host.loads.items l.fn.self.pending.items) l.fn.place (held l.host.loads.items l.self.pending.items) l.place;
  conn : l.self.conn ≡ l.fn.self.conn;
}
