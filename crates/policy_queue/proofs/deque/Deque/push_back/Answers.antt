use Rattle.std.proofs.Common.{◌+◌, ◌≤◌, ◌++◌, ◌∷◌, [], refl, sym, ap, ◌∙◌, arith, is_ok}
use Rattle.std.proofs.lemmas.Bool.{true≢false}
use Rattle.slab.specs.Slab.{slab_len}
use Rattle.policy_queue.specs.Places.{node_of}
use Rattle.policy_queue.proofs.Standing.{stale_lacked, lacks_vacant}
use Rattle.policy_queue.proofs.Queues.{IsQueue-room, push_new, push_bound, nodes_come, nodes_kept, IsQueue-pushed}
use Rattle.policy_queue.proofs.deque.Deque.push_back.Goals as goal

pub invariant_of-self : goal.invariant_of-self
invariant_of-self g c = IsQueue-room c.self.inside.region c.self.inside.slots c.make_room.new.slots c.self.inside.nodes c.make_room.new.nodes c.self.inside.next_serial c.make_room.ensures.slots c.make_room.ensures.kept c.self.invariant

pub returns-in-Err-clause-had_room : goal.returns-in-Err-clause-had_room
returns-in-Err-clause-had_room g c = λ h.
    let h' = rw (← c.self.view_is) at h in
    absurd (true≢false (sym (c.make_room.ensures.had_room (omega arith) (omega arith) (omega arith)) ∙ ap is_ok c.in-Err.is))

pub push_back-requires-clause-new : goal.push_back-requires-clause-new
push_back-requires-clause-new g c =
    let len = ap (λ t. slab_len t) c.make_room.ensures.kept in
    let more = c.in-Ok.ensures.room in
    let room : slab_len c.make_room.new.nodes + 1 ≤ c.make_room.new.slots.bound = omega arith in
    push_new c.self.inside.region c.make_room.new.slots c.make_room.new.nodes c.insert_reserved-slot.new.self c.insert_reserved-slot.result c.self.inside.next_serial c.args.element (IsQueue-room c.self.inside.region c.self.inside.slots c.make_room.new.slots c.self.inside.nodes c.make_room.new.nodes c.self.inside.next_serial c.make_room.ensures.slots c.make_room.ensures.kept c.self.invariant) c.insert_reserved-slot.ensures.was_vacant c.insert_reserved-slot.ensures.updates c.insert_reserved-slot.ensures.len c.insert_reserved-slot.ensures.slots room

pub push_back-requires-clause-bound : goal.push_back-requires-clause-bound
push_back-requires-clause-bound g c =
    let len = ap (λ t. slab_len t) c.make_room.ensures.kept in
    let more = c.in-Ok.ensures.room in
    let room : slab_len c.make_room.new.nodes + 1 ≤ c.make_room.new.slots.bound = omega arith in
    push_bound c.self.inside.region c.make_room.new.slots c.make_room.new.nodes c.insert_reserved-slot.new.self c.insert_reserved-slot.result c.self.inside.next_serial c.args.element (IsQueue-room c.self.inside.region c.self.inside.slots c.make_room.new.slots c.self.inside.nodes c.make_room.new.nodes c.self.inside.next_serial c.make_room.ensures.slots c.make_room.ensures.kept c.self.invariant) c.insert_reserved-slot.ensures.was_vacant c.insert_reserved-slot.ensures.updates c.insert_reserved-slot.ensures.len c.insert_reserved-slot.ensures.slots room

pub invariant_of-self-2 : goal.invariant_of-self-2
invariant_of-self-2 g c =
    let len = ap (λ t. slab_len t) c.make_room.ensures.kept in
    let more = c.in-Ok.ensures.room in
    let room : slab_len c.make_room.new.nodes + 1 ≤ c.make_room.new.slots.bound = omega arith in
    rw c.push_back.ensures (IsQueue-pushed c.self.inside.region c.make_room.new.slots c.make_room.new.nodes c.insert_reserved-slot.new.self c.insert_reserved-slot.result c.self.inside.next_serial c.args.element (IsQueue-room c.self.inside.region c.self.inside.slots c.make_room.new.slots c.self.inside.nodes c.make_room.new.nodes c.self.inside.next_serial c.make_room.ensures.slots c.make_room.ensures.kept c.self.invariant) c.insert_reserved-slot.ensures.was_vacant c.insert_reserved-slot.ensures.updates c.insert_reserved-slot.ensures.len c.insert_reserved-slot.ensures.slots room _)

pub returns-clause-pushes : goal.returns-clause-pushes
returns-clause-pushes g c =
    let len = ap (λ t. slab_len t) c.make_room.ensures.kept in
    let more = c.in-Ok.ensures.room in
    let room : slab_len c.make_room.new.nodes + 1 ≤ c.make_room.new.slots.bound = omega arith in
    let vacant = lacks_vacant c.make_room.new.nodes c.make_room.new.slots.indices c.insert_reserved-slot.result (IsQueue-room c.self.inside.region c.self.inside.slots c.make_room.new.slots c.self.inside.nodes c.make_room.new.nodes c.self.inside.next_serial c.make_room.ensures.slots c.make_room.ensures.kept c.self.invariant).taken c.insert_reserved-slot.ensures.was_vacant in
    let kept = nodes_kept c.self.inside.region c.self.inside.slots c.make_room.new.slots c.self.inside.nodes c.make_room.new.nodes c.self.inside.next_serial c.make_room.ensures.slots c.make_room.ensures.kept in
    rw (← c.self.view_is) (record {
      nodes = rw c.push_back.ensures (nodes_come c.self.inside.region c.make_room.new.slots c.make_room.new.nodes c.insert_reserved-slot.new.self c.insert_reserved-slot.result c.self.inside.next_serial c.args.element (IsQueue-room c.self.inside.region c.self.inside.slots c.make_room.new.slots c.self.inside.nodes c.make_room.new.nodes c.self.inside.next_serial c.make_room.ensures.slots c.make_room.ensures.kept c.self.invariant) c.insert_reserved-slot.ensures.was_vacant c.insert_reserved-slot.ensures.updates c.insert_reserved-slot.ensures.len c.insert_reserved-slot.ensures.slots room ∙ ap (λ ns. ns ++ node_of c.self.inside.region c.insert_reserved-slot.result (c.self.inside.next_serial, c.args.element) ∷ []) kept);
      queue = refl;
      serial = refl;
      fresh = rw (← kept) (stale_lacked c.self.inside.region c.make_room.new.nodes _ c.make_room.new.slots.indices vacant);
      cursor = refl;
      region = refl;
      next_serial = refl;
      room =
          let count = c.insert_reserved-slot.ensures.len in
          let cells = c.insert_reserved-slot.ensures.capacity in
          let bigger = c.make_room.ensures.cells in
          let gains = c.make_room.ensures.slots in
          rw c.push_back.ensures (omega arith);
    })
