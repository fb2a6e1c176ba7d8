use Rattle.std.proofs.Common.{◌≡◌, Some, None, true, false, refl, rules, arith}
use Rattle.std.specs.Prelude.{codes}
use Rattle.memcache_model.specs.Bytes.{tokens}
use Rattle.memcache_model.specs.Meta.{flags_fault, has_flag, is_other}
use Rattle.memcache_service.proofs.Putting.{said_behind, stale_did}
use Rattle.memcache_service.specs.Shelves.{live_on}
use Rattle.memcache_service.proofs.stock.Stock.meta_delete.Goals as goal

pub returns-in_ok-put-clause-ok : goal.returns-in_ok-put-clause-ok
returns-in_ok-put-clause-ok g c =
    let view = g.T.Shelf.view in
    let moment = c.args.asked.moment in
    let words = tokens c.args.asked.flags.now in
    let found = c.in-Some-peek.item.now in
    let right : flags_fault words ≡ None = search rules in
    let there : Some found ≡ live_on (view c.args.self.now.shelf) moment c.fill.new.self = search rules in
    let same : is_other words found ≡ false = grind (arith, c.is_other.ensures, c.if-is_other.false) in
    let stale : has_flag (codes "I") words ≡ true = grind (arith, c.has_flag.ensures, c.if-has_flag.true) in
    let said = said_behind c.args.output.now.items _ _ _ c.in_ok-say_deleted.ensures.ok refl in
    let left = c.in_ok-put.ensures.ok in
    stale_did view moment c.args.asked.key.now c.fill.new.self words found c.in_ok-changed.changed _ _ _ c.in_ok-fill.ensures right there same stale c.in_ok-changed.ensures said
    (record { items = left.items; uniques = left.uniques; flush = left.flush; may_follow = left.may_follow; most = left.most; capacity = left.capacity })
