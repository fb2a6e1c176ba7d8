use Rattle.memcache_service.proofs.Telling.{two_behind}
use Rattle.memcache_service.proofs.stock.Stock.say_settings.Goals as goal

pub returns : goal.returns
returns g c = two_behind c.say.result c.args.output.now.items _ c.say.new.output.items _ _ (rw c.from.ensures at c.in_ok-say_figures.ensures) c.say.ensures.ok
