use Rattle.std.proofs.Common.{◌≡◌, ◌+◌, refl, rules}
use Rattle.memcache_service.proofs.Putting.{put_leaves}
use Rattle.memcache_service.proofs.stock.Stock.put.Goals as goal

pub returns-clause-ok : goal.returns-clause-ok
returns-clause-ok g c =
    let next : c.in-Some.unique ≡ c.args.self.now.uniques + 1 = search rules in
    rw (← next) (put_leaves g.T.Shelf.view c.args.moment c.args.self.now.key (record c.args.item { unique = c.in-Some.unique }) c.with_unique.result _ _
    c.with_unique.ensures c.in_ok-put.ensures.puts c.requires.early c.in_ok-put.ensures.capacity refl)
