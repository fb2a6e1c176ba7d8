use Rattle.std.proofs.Common.{◌≡◌, ℕ, ◌<◌, ◌≤◌, List, ap, ◌∙◌, length, take, arith}
use Rattle.std.proofs.lemmas.List.{with_items_is}
use Rattle.policy_queue.specs.Indices.{order}
use Rattle.policy_queue.proofs.Closing.{from_within, arranged_same, front_carried, front_stays, closing_ends, order_closed, closed_whole}
use Rattle.policy_queue.proofs.index_queue.close_rest.Goals as goal
use Rattle.policy_queue.proofs.index_queue.close_rest.Goals.{then-cursors-from, else-cursors-from}

pub returns-clause-same : goal.returns-clause-same
returns-clause-same c =
    let some : 0 < length c.args.places.now.items = omega arith in
    let len : length c.carry-next.new.places ≡ length c.args.places.now.items = omega arith in
    let carries = rw c.as_mut_slice.ensures.value at c.carry-next.ensures.carries in
    let begin = from_within c.args.places.now.items c.args.seats.now.items c.args.cursors.now c.requires.arranged some c.max-from.result c.max-from.ensures in
    let high : c.len-end.result ≤ length c.args.places.now.items = omega arith in
    let more : c.max-from.result < c.len-end.result = omega arith in
    let kept : length c.carry-next.new.places ≡ c.args.places.now.len = omega arith in
    let items = with_items_is c.args.places.now c.carry-next.new.places kept in
    rw c.truncate.ensures.items (ap (λ (ps : List ℕ). order (take c.carry-next.result ps)) items ∙ order_closed c.args.places.now.items c.args.seats.now.items c.args.cursors.now c.requires.arranged some c.max-from.result c.max-from.ensures c.carry-next.new.places c.carry-next.new.seats c.len-end.result c.carry-next.result carries len more high (omega arith))

pub returns-clause-arranged : goal.returns-clause-arranged
returns-clause-arranged c =
    let some : 0 < length c.args.places.now.items = omega arith in
    let len : length c.carry-next.new.places ≡ length c.args.places.now.items = omega arith in
    let carries = rw c.as_mut_slice.ensures.value at c.carry-next.ensures.carries in
    let begin = from_within c.args.places.now.items c.args.seats.now.items c.args.cursors.now c.requires.arranged some c.max-from.result c.max-from.ensures in
    let high : c.len-end.result ≤ length c.args.places.now.items = omega arith in
    let more : c.max-from.result < c.len-end.result = omega arith in
    let all : c.len-end.result ≡ length c.args.places.now.items = omega arith in
    let seats : length c.carry-next.new.seats ≡ length c.args.seats.now.items = omega arith in
    let kept : length c.carry-next.new.places ≡ c.args.places.now.len = omega arith in
    let items = with_items_is c.args.places.now c.carry-next.new.places kept in
    let still : length c.carry-next.new.seats ≡ c.args.seats.now.len = omega arith in
    let taken = with_items_is c.args.seats.now c.carry-next.new.seats still in
    elim c.if-cursors-from.branch [
      | then-cursors-from w ↦ rw (c.truncate.ensures.items, w.cursors-is) (arranged_same _ _ _ _ _ (ap (λ (ps : List ℕ). take c.carry-next.result ps) items) taken (closing_ends c.args.places.now.items c.args.seats.now.items c.args.cursors.now c.requires.arranged some c.max-from.result c.max-from.ensures c.carry-next.new.places c.carry-next.new.seats c.len-end.result c.carry-next.result carries len more high _ (front_carried c.args.places.now.items c.args.seats.now.items c.args.cursors.now c.requires.arranged some c.max-from.result c.max-from.ensures c.carry-next.new.places c.carry-next.new.seats c.len-end.result c.carry-next.result carries len more high w.if-cursors-from.true) all seats))
      | else-cursors-from w ↦ rw (c.truncate.ensures.items, w.cursors-is) (arranged_same _ _ _ _ _ (ap (λ (ps : List ℕ). take c.carry-next.result ps) items) taken (closing_ends c.args.places.now.items c.args.seats.now.items c.args.cursors.now c.requires.arranged some c.max-from.result c.max-from.ensures c.carry-next.new.places c.carry-next.new.seats c.len-end.result c.carry-next.result carries len more high _ (front_stays c.args.places.now.items c.args.seats.now.items c.args.cursors.now c.requires.arranged some c.max-from.result c.max-from.ensures c.carry-next.new.places c.carry-next.new.seats c.len-end.result c.carry-next.result carries len more high w.if-cursors-from.false) all seats))
    ]

pub returns-clause-whole : goal.returns-clause-whole
returns-clause-whole c = λ zero.
    let some : 0 < length c.args.places.now.items = omega arith in
    let len : length c.carry-next.new.places ≡ length c.args.places.now.items = omega arith in
    let carries = rw c.as_mut_slice.ensures.value at c.carry-next.ensures.carries in
    let begin = from_within c.args.places.now.items c.args.seats.now.items c.args.cursors.now c.requires.arranged some c.max-from.result c.max-from.ensures in
    let high : c.len-end.result ≤ length c.args.places.now.items = omega arith in
    let more : c.max-from.result < c.len-end.result = omega arith in
    let all : c.len-end.result ≡ length c.args.places.now.items = omega arith in
    let kept : length c.carry-next.new.places ≡ c.args.places.now.len = omega arith in
    let items = with_items_is c.args.places.now c.carry-next.new.places kept in
    let whole = ap length c.truncate.ensures.items ∙ ap (λ (ps : List ℕ). length (take c.carry-next.result ps)) items ∙ closed_whole c.args.places.now.items c.args.seats.now.items c.args.cursors.now c.requires.arranged some c.max-from.result c.max-from.ensures c.carry-next.new.places c.carry-next.new.seats c.len-end.result c.carry-next.result carries len more high all zero in
    let ok = c.truncate.new.self.ok.0 in
    omega arith
