use Rattle.std.proofs.Common.{◌≡◌, ◌+◌, ◌∙◌, ℕ, [], true, false, refl}
use Rattle.memcache_model.specs.Bytes.{tokens}
use Rattle.memcache_model.specs.Items.{Item, exptime_deadline}
use Rattle.memcache_model.specs.Meta.{lease_text}
use Rattle.memcache_service.proofs.Putting.{did_put, leased_told, said_behind}
use Rattle.memcache_service.proofs.stock.Stock.put_leased.Goals as goal

pub returns-clause-ok : goal.returns-clause-ok
returns-clause-ok g c =
    let old = c.args.self.now in
    let moment = c.args.asked.moment in
    let words = tokens c.args.asked.flags.now in
    let unique : c.next_unique-unique.result ≡ old.uniques + 1 = c.next_unique-unique.ensures c.in_ok-put.ensures.numbered in
    let empty : ℕ → Item = λ unique. record { bytes = []; flags = 0; unique = unique; deadline = exptime_deadline moment c.args.exptime; stale = false; leased = true } in
    let stored : c.in_ok-item.item ≡ empty 0 = rw (c.in_ok-item.ensures, c.new-label.ensures, c.deadline_of-deadline.ensures) refl in
    let shown : record c.in_ok-item.item { unique = c.next_unique-unique.result; stale = false; leased = false } ≡ record (empty (old.uniques + 1)) { stale = false; leased = false } = rw (stored, unique) refl in
    let tells = leased_told c.new-told.result moment old.key c.args.asked.key.now words (empty (old.uniques + 1)) (lease_text false false true) c.new-told.ensures.letters c.new-told.ensures.moment c.new-told.ensures.key c.requires.named
    (c.new-told.ensures.item ∙ shown) in
    let said = said_behind c.args.output.now.items _ _ _ c.in_ok-say_item.ensures.ok tells in
    did_put g.T.Shelf.view moment old.key old.key (empty 0) c.in_ok-item.item _ _ _ _ refl stored said c.in_ok-put.ensures.ok
