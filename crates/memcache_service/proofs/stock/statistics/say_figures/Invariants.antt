use Rattle.std.proofs.Common.{◌≡◌, ◌++◌, drop, map}
use Rattle.memcache_model.specs.Statistics.{figures_text}
use Rattle.memcache_service.specs.Stocks.{figure_of}
use Rattle.memcache_service.proofs.stock.statistics.say_figures.Given as goal

abbrev pub invariant-loop-place : goal.invariant-loop-place
invariant-loop-place l = l.output.items ++ figures_text (map figure_of (drop l.place l.figures))
    ≡ l.initial.output.items ++ figures_text (map figure_of l.figures)
