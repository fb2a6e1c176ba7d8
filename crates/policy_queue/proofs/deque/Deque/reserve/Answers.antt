use Rattle.std.proofs.Common.{◌≡◌, ap, is_err, false, rules, arith}
use Rattle.slab.specs.Slab.{slab_len}
use Rattle.policy_queue.proofs.Queues.{IsQueue-room, on_ok}
use Rattle.policy_queue.proofs.deque.Deque.reserve.Goals as goal

pub invariant_of-self : goal.invariant_of-self
invariant_of-self g c = IsQueue-room c.self.inside.region c.self.inside.slots c.make_room.new.slots c.self.inside.nodes c.make_room.new.nodes c.self.inside.next_serial c.make_room.ensures.slots c.make_room.ensures.kept c.self.invariant

pub invariant_of-self-2 : goal.invariant_of-self-2
invariant_of-self-2 g c = IsQueue-room c.self.inside.region c.self.inside.slots c.make_room.new.slots c.self.inside.nodes c.make_room.new.nodes c.self.inside.next_serial c.make_room.ensures.slots c.make_room.ensures.kept c.self.invariant

pub returns-clause-room : goal.returns-clause-room
returns-clause-room g c =
    let ok : is_err c.make_room.result ≡ false = search rules in
    let room = on_ok c.make_room.result _ ok c.make_room.ensures.room in
    let len = ap (λ t. slab_len t) c.make_room.ensures.kept in
    omega arith
