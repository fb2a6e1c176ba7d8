use Rattle.std.proofs.Common.{◌≡◌, length}
use Rattle.std.specs.Vec.Iter.{into_iter_items, into_iter_len}
use Rattle.cache_loop.specs.Loads.{SettlesBehind, held_in_hand}
use Rattle.cache_loop.proofs.loading.Loading.ask_each.Given as goal

abbrev pub invariant-loop-load : goal.invariant-loop-load
invariant-loop-load g l = record {
  len : into_iter_len l.load-iterator ≡ length (into_iter_items l.load-iterator);
  each : SettlesBehind g.H.Host.came g.H.Host.rests l.fn.self.conn (held_in_hand l.fn.loads.items l.fn.host.loads.items l.fn.self.pending.items) l.fn.place
      (held_in_hand (into_iter_items l.load-iterator) l.host.loads.items l.self.pending.items) l.place l.fn.host.loads.items l.host.loads.items;
  conn : l.self.conn ≡ l.fn.self.conn;
}
