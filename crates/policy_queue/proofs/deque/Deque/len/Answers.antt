use Rattle.std.proofs.Common.{sym, ◌∙◌}
use Rattle.policy_queue.proofs.Standing.{length-nodes_of}
use Rattle.policy_queue.proofs.deque.Deque.len.Goals as goal

pub returns : goal.returns
returns g c = rw (← c.self.view_is) (c.len.ensures ∙ sym (length-nodes_of c.self.inside.region c.self.inside.nodes c.self.inside.slots.indices c.self.invariant.taken))
