use Rattle.cache_loop.specs.Turns.{begins}
use Rattle.cache_loop.proofs.looping.count_seconds.Goals as goal

pub returns-in-None : goal.returns-in-None
returns-in-None g c = begins

pub returns-else-passes : goal.returns-else-passes
returns-else-passes g c = begins
