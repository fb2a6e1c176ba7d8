use Rattle.std.proofs.Common.{◌≡◌, ◌≢◌, ◌+◌, ◌<◌, ◌≤◌, length, arith}
use Rattle.std.proofs.lemmas.List.{with_items_is}
use Rattle.policy_queue.proofs.Closing.{from_within, arranged_same, front_carried, front_stays, closing_goes_on}
use Rattle.policy_queue.proofs.index_queue.close_some.Goals as goal
use Rattle.policy_queue.proofs.index_queue.close_some.Goals.{then-cursors-from, else-cursors-from}

pub returns-clause-arranged : goal.returns-clause-arranged
returns-clause-arranged c =
    let some : 0 < length c.args.places.now.items = omega arith in
    let len : length c.carry-next.new.places ≡ length c.args.places.now.items = omega arith in
    let carries = rw c.as_mut_slice.ensures.value at c.carry-next.ensures.carries in
    let begin = from_within c.args.places.now.items c.args.seats.now.items c.args.cursors.now c.requires.arranged some c.max-from.result c.max-from.ensures in
    let high : (c.max-from.result + 16) ≤ length c.args.places.now.items = omega arith in
    let more : c.max-from.result < (c.max-from.result + 16) = omega arith in
    let less : (c.max-from.result + 16) ≢ length c.args.places.now.items = omega arith in
    let seats : length c.carry-next.new.seats ≡ length c.args.seats.now.items = omega arith in
    let kept : length c.carry-next.new.places ≡ c.args.places.now.len = omega arith in
    let items = with_items_is c.args.places.now c.carry-next.new.places kept in
    let still : length c.carry-next.new.seats ≡ c.args.seats.now.len = omega arith in
    let taken = with_items_is c.args.seats.now c.carry-next.new.seats still in
    elim c.if-cursors-from.branch [
      | then-cursors-from w ↦ rw (w.cursors-is) (arranged_same _ _ _ _ _ items taken (closing_goes_on c.args.places.now.items c.args.seats.now.items c.args.cursors.now c.requires.arranged some c.max-from.result c.max-from.ensures c.carry-next.new.places c.carry-next.new.seats (c.max-from.result + 16) c.carry-next.result carries len more high _ (front_carried c.args.places.now.items c.args.seats.now.items c.args.cursors.now c.requires.arranged some c.max-from.result c.max-from.ensures c.carry-next.new.places c.carry-next.new.seats (c.max-from.result + 16) c.carry-next.result carries len more high w.if-cursors-from.true) less seats))
      | else-cursors-from w ↦ rw (w.cursors-is) (arranged_same _ _ _ _ _ items taken (closing_goes_on c.args.places.now.items c.args.seats.now.items c.args.cursors.now c.requires.arranged some c.max-from.result c.max-from.ensures c.carry-next.new.places c.carry-next.new.seats (c.max-from.result + 16) c.carry-next.result carries len more high _ (front_stays c.args.places.now.items c.args.seats.now.items c.args.cursors.now c.requires.arranged some c.max-from.result c.max-from.ensures c.carry-next.new.places c.carry-next.new.seats (c.max-from.result + 16) c.carry-next.result carries len more high w.if-cursors-from.false) less seats))
    ]
