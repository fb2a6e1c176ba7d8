use Rattle.std.proofs.Common.{sym, ap, ◌∙◌, option_map}
use Rattle.policy_queue.specs.declared.places.Node.{Node}
use Rattle.policy_queue.specs.Places.{nodes_of}
use Rattle.std.specs.Option.{option_to_list}
use Rattle.policy_queue.specs.Indices.{from_index}
use Rattle.policy_queue.specs.Queue.{head, tail, cursor_at, cursor_past}
use Rattle.policy_queue.proofs.Standing.{taken_has, taken_from, taken_tail, from_has, head_id, cursor_head, cursor_past-slot, at_cursor, first_there}
use Rattle.policy_queue.proofs.deque.Deque.next_id.Goals as goal

pub cursor_to-self-inside-requires : goal.cursor_to-self-inside-requires
cursor_to-self-inside-requires g c = first_there c.self.inside.nodes _ c.behind.result c.behind.ensures (taken_tail c.self.inside.nodes _ (taken_from c.self.inside.nodes c.in-Some.slot c.self.inside.slots.indices c.self.invariant.taken))

pub id_of-requires : goal.id_of-requires
id_of-requires g c = taken_has c.self.inside.nodes c.self.inside.slots.indices c.in-Some.slot c.self.invariant.taken c.in-Some.ensures.there

pub returns-in-Some-clause-value : goal.returns-in-Some-clause-value
returns-in-Some-clause-value g c = rw (← c.self.view_is) (sym (ap (λ ns. option_map (λ (n : Node g.row.T.Denot). n.id) (head ns)) c.in-Some.ensures.gives ∙ head_id c.self.inside.region c.self.inside.nodes (from_index c.in-Some.slot c.self.inside.slots.indices) c.in-Some.slot (ap head (from_has c.in-Some.slot c.self.inside.slots.indices c.in-Some.ensures.there)) (taken_from c.self.inside.nodes c.in-Some.slot c.self.inside.slots.indices c.self.invariant.taken) ∙ c.id_of.ensures))

pub returns-in-Some-clause-cursor : goal.returns-in-Some-clause-cursor
returns-in-Some-clause-cursor g c =
    let r = c.self.inside.region in
    let s = c.self.inside.nodes in
    let xs = c.self.inside.slots.indices in
    let to = c.cursor_to-self-inside.ensures ∙ ap (λ o. cursor_at (nodes_of r s (option_to_list o))) c.behind.ensures ∙ cursor_head r s (tail (from_index c.in-Some.slot xs)) (taken_tail s _ (taken_from s c.in-Some.slot xs c.self.invariant.taken)) in
    let past = ap cursor_past c.in-Some.ensures.gives ∙ cursor_past-slot r s xs c.in-Some.slot c.self.invariant.taken c.in-Some.ensures.there in
    rw (← c.self.view_is) (ap (at_cursor (nodes_of r s xs) r _ _) (to ∙ sym past))
