use Rattle.std.proofs.Common.{◌≡◌, length}
use Rattle.memcache_service.specs.Stocks.{LeavesStock}
use Rattle.memcache_service.proofs.stock.Stock.use_all.Given as goal

abbrev pub invariant-loop-key : goal.invariant-loop-key
invariant-loop-key g l = record {
  stock : LeavesStock (g.T.Shelf.view) l.moment l.fn.self l.self;
  counters : l.self.counters ≡ l.fn.self.counters;
}

abbrev pub decreases-loop-key : goal.decreases-loop-key
decreases-loop-key g l = length l.rest
