use Rattle.std.proofs.Common.{refl, sym, ◌∙◌}
use Rattle.policy_queue.proofs.Standing.{found_at, has_found, found-moved, nodes_moved, off_moving}
use Rattle.policy_queue.proofs.Queues.{IsQueue-moved}
use Rattle.policy_queue.proofs.deque.Deque.move_to_back.Goals as goal

pub move_to_back-requires : goal.move_to_back-requires
move_to_back-requires g c = has_found c.self.inside.region c.self.inside.nodes c.self.inside.slots.indices c.args.id (found_at c.self.inside.region c.self.inside.nodes c.self.inside.slots.indices c.args.id c.self.invariant.taken (sym c.holds.ensures ∙ c.if-not-holds.false))

pub invariant_of-self : goal.invariant_of-self
invariant_of-self g c = rw c.move_to_back.ensures (IsQueue-moved c.self.inside.region c.self.inside.slots c.self.inside.nodes c.self.inside.next_serial c.args.id c.self.invariant (found_at c.self.inside.region c.self.inside.nodes c.self.inside.slots.indices c.args.id c.self.invariant.taken (sym c.holds.ensures ∙ c.if-not-holds.false)))

pub returns-clause-moves : goal.returns-clause-moves
returns-clause-moves g c =
    let f = found_at c.self.inside.region c.self.inside.nodes c.self.inside.slots.indices c.args.id c.self.invariant.taken (sym c.holds.ensures ∙ c.if-not-holds.false) in
    rw (← c.self.view_is) (record {
      nodes = rw c.move_to_back.ensures (nodes_moved c.self.inside.region c.self.inside.nodes c.self.inside.slots.indices c.args.id f c.self.invariant.taken ∙ sym (found-moved c.self.inside.region c.self.inside.nodes c.self.inside.slots.indices c.args.id f));
      cursor = c.cursor_leaving-self-inside.ensures ∙ off_moving c.self.inside.cursor c.args.id _;
      region = refl;
      next_serial = refl;
      room = rw c.move_to_back.ensures refl;
    })
