use Rattle.std.proofs.Common.{sym, ap, ◌∙◌, option_map}
use Rattle.policy_queue.specs.declared.places.Node.{Node}
use Rattle.policy_queue.specs.Queue.{final}
use Rattle.policy_queue.proofs.Standing.{final_element, final_none, taken_final}
use Rattle.policy_queue.proofs.deque.Deque.peek_back.Goals as goal

pub element_of-requires : goal.element_of-requires
element_of-requires g c = taken_final c.self.inside.nodes c.self.inside.slots.indices c.in-Some.slot c.self.invariant.taken (sym c.in-Some.ensures)

pub returns-in-Some : goal.returns-in-Some
returns-in-Some g c = rw (← c.self.view_is) (sym (final_element c.self.inside.region c.self.inside.nodes c.self.inside.slots.indices c.in-Some.slot (sym c.in-Some.ensures) c.self.invariant.taken ∙ c.element_of.ensures))

pub returns-in-None : goal.returns-in-None
returns-in-None g c = rw (← c.self.view_is) (sym (ap (λ ns. option_map (λ (n : Node g.row.T.Denot). n.element) (final ns)) (final_none c.self.inside.region c.self.inside.nodes c.self.inside.slots.indices (sym c.in-None.ensures))))
