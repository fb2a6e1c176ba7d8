use Rattle.std.proofs.Common.{◌≡◌, None, rules}
use Rattle.memcache_service.specs.Shelves.{live_on}
use Rattle.memcache_service.proofs.stock.Stock.meta_compare.Goals as goal

pub returns-in_default-clause-ok : goal.returns-in_default-clause-ok
returns-in_default-clause-ok g c =
    let none : live_on (g.T.Shelf.view c.args.self.now.shelf) c.args.asked.moment c.args.self.now.key ≡ None = search rules in
    rw none (rw (← c.mode_of-mode.ensures) (c.meta_compare_none.ensures.ok c.args.unique))

pub returns-in_default-clause-counts : goal.returns-in_default-clause-counts
returns-in_default-clause-counts g c =
    let none : live_on (g.T.Shelf.view c.args.self.now.shelf) c.args.asked.moment c.args.self.now.key ≡ None = search rules in
    rw none (rw (← c.mode_of-mode.ensures) (c.meta_compare_none.ensures.counts c.args.unique))
