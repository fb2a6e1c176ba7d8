use Rattle.memcache_service.proofs.Telling.{five_behind}
use Rattle.memcache_service.proofs.stock.Stock.say_general.Goals as goal

pub returns : goal.returns
returns g c = five_behind c.say-2.result c.args.output.now.items _ _ _ _ c.say-2.new.output.items _ _ _ _ _ (rw c.saturating_sub.ensures at c.in_ok-say_figures.ensures)
    c.in_ok-say.ensures.ok c.in_ok-say_figures-2.ensures c.in_ok-say_counts.ensures c.say-2.ensures.ok
