use Rattle.std.proofs.Common.{◌≡◌, ℕ, Some, is_some, ap, length, not, refl, subst, sym}
use Rattle.slab.proofs.SlabLemmas.{Updates-with_value}
use Rattle.slab.specs.Slab.{get}
use Rattle.memcache_service.proofs.Capacity.{failed-capacity, fed-capacity}
use Rattle.memcache_model.specs.Counts.{added}
use Rattle.memcache_service.specs.Serving.{FailsToFeed, HasFed}
use Rattle.memcache_service.specs.declared.stock.Stock.{Stock}
use Rattle.memcache_service.proofs.service.Service.feed.Goals as goal

-- when so many bytes were read
abbrev with_read : {T : Type 0} → Stock T → ℕ → Stock T
with_read stock n = record stock { counters = record stock.counters { bytes_read = n } }

pub returns-in-Ok-clause-feeds : goal.returns-in-Ok-clause-feeds
returns-in-Ok-clause-feeds g c = λ there.
    let was : get c.args.self.now.connections c.args.conn ≡ Some c.in-Some.connection.now = sym c.in-Some.ensures.value in
    let count : c.add.new.count ≡ added c.args.self.now.stock.counters.bytes_read (length c.args.piece.now) = c.add.ensures in
    record {
      before = c.in-Some.connection.now;
      after = c.feed-fed.new.self;
      was = was;
      is = Updates-with_value c.args.self.now.connections c.args.conn c.feed-fed.new.self (ap is_some was);
      done = subst (λ (n : ℕ). HasFed g.T.Shelf c.later-now.result c.args.piece.now (not c.is_closed.result) c.in-Some.connection.now c.feed-fed.new.self (with_read c.args.self.now.stock n) c.feed-fed.new.stock) count
          (ap not c.is_closed.ensures, c.in-Ok.ensures.feeds, λ closed. ((c.in-Ok.ensures.closed closed).1, (c.in-Ok.ensures.closed closed).2));
    }

pub returns-in-Err-clause-lacks : goal.returns-in-Err-clause-lacks
returns-in-Err-clause-lacks g c =
    let was : get c.args.self.now.connections c.args.conn ≡ Some c.in-Some.connection.now = sym c.in-Some.ensures.value in
    let count : c.add.new.count ≡ added c.args.self.now.stock.counters.bytes_read (length c.args.piece.now) = c.add.ensures in
    record {
      before = c.in-Some.connection.now;
      after = c.feed-fed.new.self;
      was = was;
      is = Updates-with_value c.args.self.now.connections c.args.conn c.feed-fed.new.self (ap is_some was);
      done = subst (λ (n : ℕ). FailsToFeed g.T.Shelf c.later-now.result c.args.piece.now c.in-Some.connection.now c.feed-fed.new.self (with_read c.args.self.now.stock n) c.feed-fed.new.stock) count c.in-Err.ensures.lacks;
    }

pub returns-in-Ok-clause-capacity : goal.returns-in-Ok-clause-capacity
returns-in-Ok-clause-capacity g c =
    let first = record c.args.self.now.stock { counters = record c.args.self.now.stock.counters { bytes_read = c.add.new.count } } in
    fed-capacity g.T.Shelf c.later-now.result c.args.piece.now c.in-Some.connection.now c.feed-fed.new.self first c.feed-fed.new.stock _ refl c.in-Ok.ensures.feeds (λ closed. (c.in-Ok.ensures.closed closed).2)

pub returns-in-Err-clause-capacity : goal.returns-in-Err-clause-capacity
returns-in-Err-clause-capacity g c =
    let first = record c.args.self.now.stock { counters = record c.args.self.now.stock.counters { bytes_read = c.add.new.count } } in
    failed-capacity g.T.Shelf c.later-now.result c.args.piece.now c.in-Some.connection.now c.feed-fed.new.self first c.feed-fed.new.stock c.in-Err.ensures.lacks
