use Rattle.std.proofs.Common.{◌≡◌, ◌≢◌, ◌<◌, ap, ◌∙◌, length, vec_capacity, arith}
use Rattle.std.proofs.lemmas.List.{length_push}
use Rattle.policy_queue.specs.Indices.{order, vacant, indices_for}
use Rattle.policy_queue.proofs.Order.{order_push}
use Rattle.policy_queue.proofs.Listed.{lacks_not_had}
use Rattle.policy_queue.proofs.Arranged.{arranged_pushed, indices_for-below}
use Rattle.policy_queue.proofs.index_queue.IndexQueue.push_back.Goals as goal

pub make_place-requires-clause-arranged : goal.make_place-requires-clause-arranged
make_place-requires-clause-arranged c =
    let lacks = lacks_not_had c.args.index _ (rw (← c.self.view_is) at c.requires.new) in
    let bound = rw (← c.self.view_is) at c.requires.bound in
    let room = rw (← c.self.view_is) at c.requires.room in
    let free = c.self.invariant.free in
    let ok = c.self.inside.places.ok.0 in
    let seats = c.self.inside.seats.ok.0 in
    let here : c.len.result ≡ length c.self.inside.places.items = c.len.ensures ∙ ok in
    let within : c.args.index < length c.self.inside.seats.items = omega arith in
    let below = indices_for-below (vec_capacity c.self.inside.places) (omega arith) in
    rw (c.push_reserved.ensures.items, here) (arranged_pushed c.self.inside.places.items c.self.inside.seats.items c.self.inside.cursors c.args.index c.self.invariant.arranged lacks within (omega arith))

pub make_place-requires-clause-place : goal.make_place-requires-clause-place
make_place-requires-clause-place c =
    let bound = rw (← c.self.view_is) at c.requires.bound in
    let room = rw (← c.self.view_is) at c.requires.room in
    let few = c.self.invariant.arranged.few in
    let was = c.self.inside.seats.ok.0 in
    let named : c.args.index ≢ vacant = λ e. absurd (omega arith) in
    let pushed = ap length (ap order c.push_reserved.ensures.items ∙ order_push c.self.inside.places.items c.args.index named) ∙ length_push _ _ in
    let cap = c.push_reserved.ensures.capacity in
    let counted = c.self.invariant.counted in
    let enough = c.self.invariant.enough in
    let below = indices_for-below (vec_capacity c.self.inside.places) (omega arith) in
    omega arith

pub invariant_of-self : goal.invariant_of-self
invariant_of-self c =
    let bound = rw (← c.self.view_is) at c.requires.bound in
    let room = rw (← c.self.view_is) at c.requires.room in
    let few = c.self.invariant.arranged.few in
    let was = c.self.inside.seats.ok.0 in
    let named : c.args.index ≢ vacant = λ e. absurd (omega arith) in
    let pushed = ap length (c.make_place.ensures.same ∙ ap order c.push_reserved.ensures.items ∙ order_push c.self.inside.places.items c.args.index named) ∙ length_push _ _ in
    let cap = c.make_place.ensures.capacity ∙ c.push_reserved.ensures.capacity in
    let fits = ap indices_for cap in
    let counted = c.self.invariant.counted in
    let enough = c.self.invariant.enough in
    let early = c.self.invariant.early in
    let free = c.make_place.ensures.free in
    let ok = c.make_place.new.places.ok.0 in
    record { arranged = c.make_place.ensures.arranged; counted = omega arith; enough = omega arith; free = omega arith; early = omega arith }
