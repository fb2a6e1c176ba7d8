use Rattle.std.proofs.Common.{◌≡◌, refl, sym, ap, ◌∙◌, option_map, Some, arith}
use Rattle.std.proofs.lemmas.Option.{same_Some}
use Rattle.policy_queue.specs.declared.places.Node.{Node}
use Rattle.policy_queue.proofs.Standing.{found_at, found, found-without, has_found, found_there, nodes_left, off_leaving}
use Rattle.policy_queue.proofs.Queues.{IsQueue-left}
use Rattle.policy_queue.proofs.deque.Deque.unlink.Goals as goal

pub remove-requires : goal.remove-requires
remove-requires g c = has_found c.self.inside.region c.self.inside.nodes c.self.inside.slots.indices c.args.id (found_at c.self.inside.region c.self.inside.nodes c.self.inside.slots.indices c.args.id c.self.invariant.taken (sym c.holds.ensures ∙ c.if-not-holds.false))

pub remove-element-requires : goal.remove-element-requires
remove-element-requires g c = found_there c.self.inside.region c.self.inside.nodes c.self.inside.slots.indices c.args.id (found_at c.self.inside.region c.self.inside.nodes c.self.inside.slots.indices c.args.id c.self.invariant.taken (sym c.holds.ensures ∙ c.if-not-holds.false))

pub invariant_of-self : goal.invariant_of-self
invariant_of-self g c = rw c.remove.ensures (IsQueue-left c.self.inside.region c.self.inside.slots c.self.inside.nodes c.self.inside.next_serial c.args.id c.self.invariant (found_at c.self.inside.region c.self.inside.nodes c.self.inside.slots.indices c.args.id c.self.invariant.taken (sym c.holds.ensures ∙ c.if-not-holds.false)) c.remove-element.new.self _ c.remove-element.ensures.updates c.remove-element.ensures.len c.remove-element.ensures.slots)

pub returns-clause-value : goal.returns-clause-value
returns-clause-value g c =
    let f = found_at c.self.inside.region c.self.inside.nodes c.self.inside.slots.indices c.args.id c.self.invariant.taken (sym c.holds.ensures ∙ c.if-not-holds.false) in
    let one : f.value ≡ c.remove-element.result = same_Some _ _ (sym f.there ∙ c.remove-element.ensures.value) in
    rw (← c.self.view_is) (ap (option_map (λ (n : Node g.row.T.Denot). n.element)) (found c.self.inside.region c.self.inside.nodes c.self.inside.slots.indices c.args.id f) ∙ ap (λ v. Some v.1) one)

pub returns-clause-leaves : goal.returns-clause-leaves
returns-clause-leaves g c =
    let f = found_at c.self.inside.region c.self.inside.nodes c.self.inside.slots.indices c.args.id c.self.invariant.taken (sym c.holds.ensures ∙ c.if-not-holds.false) in
    let less = c.remove-element.ensures.len in
    let cells = c.remove-element.ensures.capacity in
    rw (← c.self.view_is) (record {
      nodes = rw c.remove.ensures (nodes_left c.self.inside.region c.self.inside.nodes c.self.inside.slots.indices c.args.id f c.self.invariant.taken c.self.inside.next_serial c.self.invariant.named c.remove-element.new.self c.remove-element.ensures.updates ∙ sym (found-without c.self.inside.region c.self.inside.nodes c.self.inside.slots.indices c.args.id f));
      cursor = c.cursor_leaving-self-inside.ensures ∙ off_leaving c.self.inside.cursor c.args.id _;
      region = refl;
      next_serial = refl;
      room = rw c.remove.ensures (omega arith);
    })
