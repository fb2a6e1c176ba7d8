use Rattle.policy_queue.proofs.Names.{stays_stale}
use Rattle.policy_queue.proofs.deque.stale_names_stay_stale.Goals as goal

pub returns : goal.returns
returns g c = λ id. rw (← c.queue.view_is) (stays_stale _ id _ _ c.queue.invariant.named)
