use Rattle.std.proofs.Common.{◌≡◌, ◌++◌, ◌∙◌, ap, false, rules}
use Rattle.memcache_model.specs.Bytes.{tokens}
use Rattle.memcache_service.proofs.Finding.{told_found_of}
use Rattle.memcache_service.specs.Told.{told_item}
use Rattle.memcache_service.proofs.stock.meta.say_found.Goals as goal

pub returns-clause-told : goal.returns-clause-told
returns-clause-told c =
    let item = c.args.item.now in
    let same : told_item c.new-told.result ≡ record item { stale = false; leased = false } = search rules in
    let text = told_found_of c.new-told.result c.args.asked.moment c.args.asked.key.now (tokens c.args.asked.flags.now) item c.retimed-deadline.result c.wins-wins.result c.new-told.ensures.letters c.new-told.ensures.moment
    c.new-told.ensures.key same c.retimed-deadline.ensures c.wins-wins.ensures in
    let said = rw c.is_leased.ensures at c.in_ok-say_item.ensures.ok in
    let said_too = rw c.is_stale.ensures at said in
    said_too ∙ ap (λ t. c.args.output.now.items ++ t) text
