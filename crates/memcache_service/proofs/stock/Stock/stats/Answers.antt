use Rattle.std.proofs.Common.{◌∙◌}
use Rattle.memcache_service.proofs.Putting.{said_behind}
use Rattle.memcache_service.proofs.stock.Stock.stats.Goals as goal

pub returns-clause-tells : goal.returns-clause-tells
returns-clause-tells g c =
    let told = rw c.first_word-word.ensures at (rw c.new-text.ensures.items at c.in_ok-say_statistics.ensures) in (
      c.item_count.result,
      c.weight.result,
      said_behind c.args.output.now.items c.say.new.output.items c.as_slice-2.result.now _ c.in_ok-say.ensures.ok (c.as_slice-2.ensures.value ∙ told),
    )
