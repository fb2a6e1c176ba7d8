use Rattle.std.proofs.Common.{◌≡◌, length}
use Rattle.std.specs.Vec.Iter.{into_iter_items, into_iter_len}
use Rattle.cache_loop.specs.Loads.{GivesUpEach, numbers_out}
use Rattle.cache_loop.proofs.apart.Apart.give_up_all.Given as goal

-- whoever gives up the rest has given up all
abbrev pub invariant-loop-load : goal.invariant-loop-load
invariant-loop-load g l = record {
  len : into_iter_len l.load-iterator ≡ length (into_iter_items l.load-iterator);
  each : (q : g.row.H-Place.Denot) → GivesUpEach g.H.Host.came g.H.Host.rests l.conn l.place (numbers_out (into_iter_items l.load-iterator)) q
      → GivesUpEach g.H.Host.came g.H.Host.rests l.conn l.fn.place (numbers_out l.fn.loads.items) q;
  loads : l.self.loads.items ≡ l.fn.self.loads.items;
}
