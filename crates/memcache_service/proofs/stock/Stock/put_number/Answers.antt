use Rattle.std.proofs.Common.{◌≡◌, ℕ, List, ◌+◌, [], refl}
use Rattle.std.specs.Prelude.{if◌then◌else◌}
use Rattle.memcache_model.specs.Bytes.{tokens}
use Rattle.memcache_model.specs.Meta.{item_text, told_to_count}
use Rattle.memcache_service.proofs.Putting.{did_put, said_behind}
use Rattle.memcache_service.proofs.stock.Stock.put_number.Goals as goal

pub returns-clause-ok : goal.returns-clause-ok
returns-clause-ok g c =
    let old = c.args.self.now in
    let words = tokens c.args.asked.flags.now in
    let unique : c.next_unique.result ≡ old.uniques + 1 = c.next_unique.ensures c.in_ok-put.ensures.numbered in
    let told : List ℕ → ℕ → List ℕ = λ key unique. if c.args.is_quiet then [] else item_text told_to_count c.args.asked.moment key (record c.args.item { unique = unique }) words [] in
    let same : told c.args.asked.key.now c.next_unique.result ≡ told old.key (old.uniques + 1) = rw (unique, c.requires.named) refl in
    let said = said_behind c.args.output.now.items _ _ _ c.in_ok-say_counted.ensures.ok same in
    did_put g.T.Shelf.view c.args.asked.moment old.key old.key c.args.item c.args.item _ _ _ _ refl refl said c.in_ok-put.ensures.ok
