use Rattle.std.proofs.Common.{sym, ◌∙◌}
use Rattle.policy_queue.proofs.Standing.{slots_of-nodes}
use Rattle.policy_queue.proofs.deque.places_of.Goals as goal

pub returns : goal.returns
returns g c = rw (← c.queue.view_is) (c.places.ensures ∙ sym (slots_of-nodes c.queue.inside.region c.queue.inside.nodes c.queue.inside.slots.indices c.queue.invariant.taken))
