use Rattle.std.proofs.Common.{◌≢◌, ◌+◌, ◌∙◌, length, set, subst, arith}
use Rattle.std.proofs.lemmas.List.{length-set, get_or_read}
use Rattle.policy_queue.specs.Indices.{vacant, IsCutShort}
use Rattle.policy_queue.proofs.Ends.{Ends-advanced, Ends-between}
use Rattle.policy_queue.proofs.Arranged.{seat_there, seated_there, arranged_trimmed, arranged_fronted, left_without, left_ends-but}
use Rattle.policy_queue.proofs.index_queue.take_off.Goals as goal

pub returns-then-k-len-clause-arranged : goal.returns-then-k-len-clause-arranged
returns-then-k-len-clause-arranged c =
    let lt = seat_there c.args.places.now.items c.args.seats.now.items c.args.cursors.now c.requires.arranged c.args.index c.requires.there in
    let at = seated_there c.args.places.now.items c.args.seats.now.items c.args.cursors.now c.requires.arranged c.args.index c.index.result.now c.requires.there (get_or_read _ _ _ lt c.index.ensures vacant) in
    let ok = c.trim.new.places.ok.0 in
    let was = c.args.places.now.ok.0 in
    arranged_trimmed c.args.places.now.items c.args.seats.now.items c.args.cursors.now c.args.index c.index.result.now c.requires.arranged at c.trim.new.places.items c.trim.new.cursors c.trim.ensures.same c.trim.ensures.ends (subst (λ n. IsCutShort n c.args.cursors.now c.trim.new.cursors) ok c.trim.ensures.cursors) (omega arith)

pub returns-then-k-len-clause-taken : goal.returns-then-k-len-clause-taken
returns-then-k-len-clause-taken c =
    let lt = seat_there c.args.places.now.items c.args.seats.now.items c.args.cursors.now c.requires.arranged c.args.index c.requires.there in
    let at = seated_there c.args.places.now.items c.args.seats.now.items c.args.cursors.now c.requires.arranged c.args.index c.index.result.now c.requires.there (get_or_read _ _ _ lt c.index.ensures vacant) in
    c.trim.ensures.same.order ∙ left_without c.args.places.now.items c.args.seats.now.items c.args.cursors.now c.args.index c.index.result.now c.requires.arranged at

pub returns-then-k-cursors-clause-arranged : goal.returns-then-k-cursors-clause-arranged
returns-then-k-cursors-clause-arranged c =
    let lt = seat_there c.args.places.now.items c.args.seats.now.items c.args.cursors.now c.requires.arranged c.args.index c.requires.there in
    let at = seated_there c.args.places.now.items c.args.seats.now.items c.args.cursors.now c.requires.arranged c.args.index c.index.result.now c.requires.there (get_or_read _ _ _ lt c.index.ensures vacant) in
    let empty = rw c.as_slice.ensures.value at c.next_taken-cursors.ensures.empty in
    let first = rw c.as_slice.ensures.value at c.next_taken-cursors.ensures.first in
    let high = rw c.as_slice.ensures.value at c.next_taken-cursors.ensures.high in
    let was = c.args.places.now.ok.0 in
    let len = length-set c.args.places.now.items c.index.result.now vacant in
    let more : c.index.result.now + 1 ≢ length (set c.args.places.now.items c.index.result.now vacant) = λ e. c.if-k-len.false (omega arith) in
    let left = left_ends-but c.args.places.now.items c.args.seats.now.items c.args.cursors.now c.args.index c.index.result.now c.requires.arranged at in
    arranged_fronted c.args.places.now.items c.args.seats.now.items c.args.cursors.now c.args.index c.index.result.now c.requires.arranged at c.next_taken-cursors.result (Ends-advanced _ c.args.cursors.now.front c.index.result.now c.next_taken-cursors.result left c.if-k-cursors.true more empty first c.next_taken-cursors.ensures.low high)

pub returns-then-k-cursors-clause-taken : goal.returns-then-k-cursors-clause-taken
returns-then-k-cursors-clause-taken c =
    let lt = seat_there c.args.places.now.items c.args.seats.now.items c.args.cursors.now c.requires.arranged c.args.index c.requires.there in
    let at = seated_there c.args.places.now.items c.args.seats.now.items c.args.cursors.now c.requires.arranged c.args.index c.index.result.now c.requires.there (get_or_read _ _ _ lt c.index.ensures vacant) in
    left_without c.args.places.now.items c.args.seats.now.items c.args.cursors.now c.args.index c.index.result.now c.requires.arranged at

pub returns-else-k-cursors-clause-arranged : goal.returns-else-k-cursors-clause-arranged
returns-else-k-cursors-clause-arranged c =
    let lt = seat_there c.args.places.now.items c.args.seats.now.items c.args.cursors.now c.requires.arranged c.args.index c.requires.there in
    let at = seated_there c.args.places.now.items c.args.seats.now.items c.args.cursors.now c.requires.arranged c.args.index c.index.result.now c.requires.there (get_or_read _ _ _ lt c.index.ensures vacant) in
    let was = c.args.places.now.ok.0 in
    let len = length-set c.args.places.now.items c.index.result.now vacant in
    let more : c.index.result.now + 1 ≢ length (set c.args.places.now.items c.index.result.now vacant) = λ e. c.if-k-len.false (omega arith) in
    let left = left_ends-but c.args.places.now.items c.args.seats.now.items c.args.cursors.now c.args.index c.index.result.now c.requires.arranged at in
    arranged_fronted c.args.places.now.items c.args.seats.now.items c.args.cursors.now c.args.index c.index.result.now c.requires.arranged at c.args.cursors.now.front (Ends-between _ c.args.cursors.now.front c.index.result.now left c.if-k-cursors.false more)

pub returns-else-k-cursors-clause-taken : goal.returns-else-k-cursors-clause-taken
returns-else-k-cursors-clause-taken c =
    let lt = seat_there c.args.places.now.items c.args.seats.now.items c.args.cursors.now c.requires.arranged c.args.index c.requires.there in
    let at = seated_there c.args.places.now.items c.args.seats.now.items c.args.cursors.now c.requires.arranged c.args.index c.index.result.now c.requires.there (get_or_read _ _ _ lt c.index.ensures vacant) in
    left_without c.args.places.now.items c.args.seats.now.items c.args.cursors.now c.args.index c.index.result.now c.requires.arranged at
