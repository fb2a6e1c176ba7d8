use Rattle.std.proofs.Common.{ap, sym, ◌∙◌, ◌≡◌, ℕ, List, ◌+◌, refl}
use Rattle.memcache_model.specs.Bytes.{tokens}
use Rattle.memcache_model.specs.Meta.{stored_text, told_to_set, unless_quiet}
use Rattle.memcache_service.proofs.Putting.{did_put, said_behind}
use Rattle.memcache_service.proofs.stock.Stock.put_told.Goals as goal

pub returns-clause-ok : goal.returns-clause-ok
returns-clause-ok g c =
    let old = c.args.self.now in
    let words = tokens c.args.asked.flags.now in
    let unique : c.next_unique.result ≡ old.uniques + 1 = c.next_unique.ensures c.in_ok-put.ensures.numbered in
    let told : List ℕ → ℕ → List ℕ = λ key unique. unless_quiet words (stored_text told_to_set c.args.asked.moment key (record c.args.item { unique = unique }) words) in
    let same : told c.args.asked.key.now c.next_unique.result ≡ told old.key (old.uniques + 1) = ap (told c.args.asked.key.now) unique ∙ ap (λ k. told k (old.uniques + 1)) (sym c.requires.named) in
    let said = said_behind c.args.output.now.items _ _ _ c.in_ok-say_stored.ensures.ok same in
    did_put g.T.Shelf.view c.args.asked.moment old.key old.key c.args.item c.args.item _ _ _ _ refl refl said c.in_ok-put.ensures.ok
