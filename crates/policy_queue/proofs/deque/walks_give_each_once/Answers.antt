use Rattle.policy_queue.proofs.Names.{walks_once}
use Rattle.policy_queue.proofs.deque.walks_give_each_once.Goals as goal

pub returns : goal.returns
returns g c = rw (← c.queue.view_is) (walks_once _ _ _ c.queue.invariant.named)
