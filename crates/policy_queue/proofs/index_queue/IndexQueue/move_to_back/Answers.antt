use Rattle.std.proofs.Common.{ap, ◌∙◌, length, vec_capacity, arith}
use Rattle.policy_queue.specs.Indices.{order}
use Rattle.policy_queue.proofs.Listed.{length_without, length_moved}
use Rattle.policy_queue.proofs.Arranged.{indices_for-below}
use Rattle.policy_queue.proofs.index_queue.IndexQueue.move_to_back.Goals as goal

pub make_place-requires-clause-place : goal.make_place-requires-clause-place
make_place-requires-clause-place c =
    let has = rw (← c.self.view_is) at c.requires in
    let some = length_without c.args.index (order c.self.inside.places.items) has in
    let still = ap length c.put_last.ensures.moved ∙ length_moved c.args.index (order c.self.inside.places.items) has in
    let counted = c.self.invariant.counted in
    let enough = c.self.invariant.enough in
    let cap = c.put_last.ensures.capacity in
    let room = indices_for-below (vec_capacity c.self.inside.places) (omega arith) in
    omega arith
