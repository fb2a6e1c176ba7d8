use Rattle.std.proofs.Common.{◌≡◌, ◌-◌, ◌≤◌, length, drop}
use Rattle.memcache_service.specs.Serving.{AreServed}
use Rattle.memcache_service.specs.Shelves.{MayComeAt}
use Rattle.memcache_service.proofs.connection.Connection.run.Given as goal

abbrev pub invariant-loop-moment : goal.invariant-loop-moment
invariant-loop-moment g l = record {
  within : l.start ≤ length l.bytes;
  served : AreServed (g.T.Shelf) l.moment l.initial.stock.most l.initial.stock l.bytes l.initial.self.skip l.initial.self.output.items l.stock (drop l.start l.bytes) l.self.skip l.self.output.items l.self.is_closed;
  input : l.self.input ≡ l.initial.self.input;
  may_follow : MayComeAt (g.T.Shelf.view l.stock.shelf) l.moment;
  most : l.stock.most ≡ l.initial.stock.most;
}

abbrev pub decreases-loop-moment : goal.decreases-loop-moment
decreases-loop-moment g l = length l.bytes - l.start
