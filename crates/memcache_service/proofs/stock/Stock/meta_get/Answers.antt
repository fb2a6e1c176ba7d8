use Rattle.std.proofs.Common.{rules, arith, ◌≡◌, Some, None}
use Rattle.std.proofs.lemmas.Grind.{common_steps}
use Rattle.memcache_model.specs.Bytes.{tokens}
use Rattle.memcache_model.specs.Meta.{flags_fault}
use Rattle.memcache_service.proofs.Finding.{renewed}
use Rattle.memcache_service.specs.Shelves.{live_on}
use Rattle.memcache_service.specs.Told.{found_item}
use Rattle.memcache_service.proofs.stock.Stock.meta_get.Goals as goal

pub returns-clause-ok : goal.returns-clause-ok
returns-clause-ok g c =
    let view = g.T.Shelf.view in
    let moment = c.args.asked.moment in
    let words = tokens c.args.asked.flags.now in
    let item = c.in-Some-peek.item.now in
    let found = found_item moment words item in
    let none : flags_fault words ≡ None = search rules in
    let is : Some item ≡ live_on (view c.args.self.now.shelf) moment c.fill.new.self = search rules in
    let left = c.in_ok-renew.ensures.ok found (renewed c.in_ok-changed.changed found item (live_on (view c.args.self.now.shelf) moment c.fill.new.self) is c.in_ok-changed.ensures.becomes) in
    let named = rw c.in_ok-fill.ensures at left in
    let there = rw c.in_ok-fill.ensures at is in
    rw none (rw (← there) (record {
      said = grind (arith, common_steps);
      leaves = record {
        items = named.items;
        uniques = named.uniques;
        flush = named.flush;
        may_follow = named.may_follow;
        most = named.most;
        capacity = named.capacity;
      };
    }))
