use Rattle.std.proofs.Common.{sym, ap, ◌∙◌, is_some, option_map}
use Rattle.policy_queue.specs.declared.places.Node.{Node}
use Rattle.policy_queue.specs.Queue.{head}
use Rattle.policy_queue.proofs.Standing.{found_at, found, has_found, found-behind, slots_behind, taken_behind, taken_head, head_id, nodes_none}
use Rattle.policy_queue.proofs.deque.Deque.next_node_ptr.Goals as goal

pub behind-requires : goal.behind-requires
behind-requires g c = has_found c.self.inside.region c.self.inside.nodes c.self.inside.slots.indices c.args.id (found_at c.self.inside.region c.self.inside.nodes c.self.inside.slots.indices c.args.id c.self.invariant.taken (sym c.holds.ensures ∙ c.if-not-holds.false))

pub id_of-requires : goal.id_of-requires
id_of-requires g c =
    let f = found_at c.self.inside.region c.self.inside.nodes c.self.inside.slots.indices c.args.id c.self.invariant.taken (sym c.holds.ensures ∙ c.if-not-holds.false) in
    taken_head c.self.inside.nodes f.behind c.in-Some.slot (taken_behind c.self.inside.region c.self.inside.nodes c.self.inside.slots.indices c.args.id f c.self.invariant.taken) (ap head (sym (slots_behind c.self.inside.region c.self.inside.nodes c.self.inside.slots.indices c.args.id f)) ∙ sym c.in-Some.ensures)

pub returns-in-Some : goal.returns-in-Some
returns-in-Some g c =
    let f = found_at c.self.inside.region c.self.inside.nodes c.self.inside.slots.indices c.args.id c.self.invariant.taken (sym c.holds.ensures ∙ c.if-not-holds.false) in
    let first = ap head (sym (slots_behind c.self.inside.region c.self.inside.nodes c.self.inside.slots.indices c.args.id f)) ∙ sym c.in-Some.ensures in
    rw (← c.self.view_is) (ap is_some (found c.self.inside.region c.self.inside.nodes c.self.inside.slots.indices c.args.id f), sym (ap (λ ns. option_map (λ (n : Node g.row.T.Denot). n.id) (head ns)) (found-behind c.self.inside.region c.self.inside.nodes c.self.inside.slots.indices c.args.id f) ∙ head_id c.self.inside.region c.self.inside.nodes f.behind c.in-Some.slot first (taken_behind c.self.inside.region c.self.inside.nodes c.self.inside.slots.indices c.args.id f c.self.invariant.taken) ∙ c.id_of.ensures))

pub returns-in-None : goal.returns-in-None
returns-in-None g c =
    let f = found_at c.self.inside.region c.self.inside.nodes c.self.inside.slots.indices c.args.id c.self.invariant.taken (sym c.holds.ensures ∙ c.if-not-holds.false) in
    let none = nodes_none c.self.inside.region c.self.inside.nodes f.behind (ap head (sym (slots_behind c.self.inside.region c.self.inside.nodes c.self.inside.slots.indices c.args.id f)) ∙ sym c.in-None.ensures) in
    rw (← c.self.view_is) (ap is_some (found c.self.inside.region c.self.inside.nodes c.self.inside.slots.indices c.args.id f), sym (ap (λ ns. option_map (λ (n : Node g.row.T.Denot). n.id) (head ns)) (found-behind c.self.inside.region c.self.inside.nodes c.self.inside.slots.indices c.args.id f ∙ none)))
