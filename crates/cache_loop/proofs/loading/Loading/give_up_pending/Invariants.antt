use Rattle.std.proofs.Common.{◌≡◌, length}
use Rattle.cache_loop.specs.Loads.{GivesUpEach, numbers_pending}
use Rattle.cache_loop.proofs.loading.Loading.give_up_pending.Given as goal

-- whoever gives up the rest has given up all
abbrev pub invariant-loop-load : goal.invariant-loop-load
invariant-loop-load g l = record {
  each : (q : g.row.H-Place.Denot) → GivesUpEach g.H.Host.came g.H.Host.rests l.conn l.place (numbers_pending l.self.pending.items) q
      → GivesUpEach g.H.Host.came g.H.Host.rests l.conn l.fn.place (numbers_pending l.fn.self.pending.items) q;
  conn : l.self.conn ≡ l.fn.self.conn;
  loads : l.host.loads.items ≡ l.fn.host.loads.items;
}

abbrev pub decreases-loop-load : goal.decreases-loop-load
decreases-loop-load g l = length l.self.pending.items
