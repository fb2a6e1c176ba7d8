use Rattle.std.proofs.Common.{◌≡◌, length}
use Rattle.memcache_model.specs.Bytes.{tokens}
use Rattle.memcache_service.proofs.Touching.{Reached}
use Rattle.memcache_service.proofs.stock.Stock.touch_all.Given as goal

abbrev pub invariant-loop-key : goal.invariant-loop-key
invariant-loop-key g l = record {
  reached : Reached (g.T.Shelf.view) l.moment l.deadline (tokens l.keys) l.fn.self (tokens l.rest) l.self;
  counters : l.self.counters ≡ l.fn.self.counters;
}

abbrev pub decreases-loop-key : goal.decreases-loop-key
decreases-loop-key g l = length l.rest
