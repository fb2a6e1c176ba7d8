use Rattle.std.proofs.Common.{◌≡◌, ◌^◌, Some, rules}
use Rattle.memcache_model.specs.Bytes.{number_below}
use Rattle.memcache_service.proofs.Putting.{counts_did}
use Rattle.memcache_service.specs.Shelves.{live_on}
use Rattle.memcache_service.proofs.stock.Stock.count.Goals as goal

pub returns-clause-ok : goal.returns-clause-ok
returns-clause-ok g c =
    let view = g.T.Shelf.view in
    let found = c.in-Some.item.now in
    let there : Some found ≡ live_on (view c.args.self.now.shelf) c.args.moment c.fill.new.self = search rules in
    let parsed : number_below (2 ^ 64) found.bytes ≡ Some c.in-Some-number.old = search rules in
    let left = c.in_ok-put.ensures.ok in
    counts_did view c.args.moment c.args.direction c.args.key.now c.fill.new.self c.args.delta found c.in_ok-item.item c.in-Some-number.old c.counted-number.result _ _
    c.in_ok-fill.ensures there parsed c.counted-number.ensures c.in_ok-item.ensures (record { items = left.items; uniques = left.uniques; flush = left.flush; may_follow = left.may_follow; most = left.most; capacity = left.capacity })
