use Rattle.cache_loop.proofs.Pairs.{same-on}
use Rattle.cache_loop.proofs.hall.Hall.wake_one.Goals as goal

pub returns-then-unlist : goal.returns-then-unlist
returns-then-unlist g c = same-on c.args.self.now.served c.unlist.new.self.served c.enqueue.new.self.served c.unlist.ensures c.enqueue.ensures
