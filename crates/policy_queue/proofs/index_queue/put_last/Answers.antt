use Rattle.std.proofs.Common.{◌≢◌, ◌≡◌, ◌+◌, ◌∙◌, ap, sym, length, set, arith}
use Rattle.std.proofs.lemmas.List.{length-set, get_or_read}
use Rattle.policy_queue.specs.Indices.{vacant, order}
use Rattle.policy_queue.proofs.Ends.{Ends-advanced, Ends-between}
use Rattle.policy_queue.proofs.Arranged.{seat_there, seated_there, arranged_moved, order_moved, moved_last, left_ends-but}
use Rattle.policy_queue.proofs.index_queue.put_last.Goals as goal
use Rattle.policy_queue.proofs.index_queue.put_last.Goals.{then-k-cursors, else-k-cursors}

pub returns-then-k-len-clause-moved : goal.returns-then-k-len-clause-moved
returns-then-k-len-clause-moved c =
    let lt = seat_there c.args.places.now.items c.args.seats.now.items c.args.cursors.now c.requires.arranged c.args.index c.requires.there in
    let at = seated_there c.args.places.now.items c.args.seats.now.items c.args.cursors.now c.requires.arranged c.args.index c.index.result.now c.requires.there (get_or_read _ _ _ lt c.index.ensures vacant) in
    let ok = c.args.places.now.ok.0 in
    sym (moved_last c.args.places.now.items c.args.seats.now.items c.args.cursors.now c.args.index c.index.result.now c.requires.arranged at (omega arith))

pub returns-clause-moved : goal.returns-clause-moved
returns-clause-moved c =
    let lt = seat_there c.args.places.now.items c.args.seats.now.items c.args.cursors.now c.requires.arranged c.args.index c.requires.there in
    let at = seated_there c.args.places.now.items c.args.seats.now.items c.args.cursors.now c.requires.arranged c.args.index c.index.result.now c.requires.there (get_or_read _ _ _ lt c.index.ensures vacant) in
    ap order c.push_reserved.ensures.items ∙ order_moved c.args.places.now.items c.args.seats.now.items c.args.cursors.now c.args.index c.index.result.now c.requires.arranged at

pub returns-clause-arranged : goal.returns-clause-arranged
returns-clause-arranged c =
    let lt = seat_there c.args.places.now.items c.args.seats.now.items c.args.cursors.now c.requires.arranged c.args.index c.requires.there in
    let at = seated_there c.args.places.now.items c.args.seats.now.items c.args.cursors.now c.requires.arranged c.args.index c.index.result.now c.requires.there (get_or_read _ _ _ lt c.index.ensures vacant) in
    let ok = c.args.places.now.ok.0 in
    let len = length-set c.args.places.now.items c.index.result.now vacant in
    let here : c.len-len.result ≡ length (set c.args.places.now.items c.index.result.now vacant) = omega arith in
    let more : c.index.result.now + 1 ≢ length (set c.args.places.now.items c.index.result.now vacant) = λ e. c.if-k-len.false (omega arith) in
    let left = left_ends-but c.args.places.now.items c.args.seats.now.items c.args.cursors.now c.args.index c.index.result.now c.requires.arranged at in
    elim c.if-k-cursors.branch [
      | then-k-cursors w ↦
          let empty = rw w.as_slice.ensures.value at w.next_taken-cursors.ensures.empty in
          let first = rw w.as_slice.ensures.value at w.next_taken-cursors.ensures.first in
          let high = rw w.as_slice.ensures.value at w.next_taken-cursors.ensures.high in
          rw (c.push_reserved.ensures.items, here, w.cursors-is) (arranged_moved c.args.places.now.items c.args.seats.now.items c.args.cursors.now c.args.index c.index.result.now c.requires.arranged at w.next_taken-cursors.result (Ends-advanced _ c.args.cursors.now.front c.index.result.now w.next_taken-cursors.result left w.if-k-cursors.true more empty first w.next_taken-cursors.ensures.low high) lt (omega arith))
      | else-k-cursors w ↦ rw (c.push_reserved.ensures.items, here, w.cursors-is) (arranged_moved c.args.places.now.items c.args.seats.now.items c.args.cursors.now c.args.index c.index.result.now c.requires.arranged at c.args.cursors.now.front (Ends-between _ c.args.cursors.now.front c.index.result.now left w.if-k-cursors.false more) lt (omega arith))
    ]
