use Rattle.std.proofs.Common.{◌+◌, ◌<◌, Some, sym, ap, ◌∙◌, length, arith}
use Rattle.std.proofs.lemmas.List.{get_or_read}
use Rattle.policy_queue.specs.Indices.{vacant}
use Rattle.policy_queue.specs.Queue.{head}
use Rattle.policy_queue.proofs.Arranged.{seat_there, seated_there, behind_there, head_from, none_from}
use Rattle.policy_queue.proofs.index_queue.IndexQueue.behind.Goals as goal

pub returns-then-next-len : goal.returns-then-next-len
returns-then-next-len c =
    let has = rw (← c.self.view_is) at c.requires in
    let lt = seat_there c.self.inside.places.items c.self.inside.seats.items c.self.inside.cursors c.self.invariant.arranged c.args.index has in
    let read = get_or_read _ _ _ lt c.index.ensures vacant in
    let at = seated_there c.self.inside.places.items c.self.inside.seats.items c.self.inside.cursors c.self.invariant.arranged c.args.index c.index.result.now has read in
    let empty = rw c.as_slice.ensures.value at c.next_taken-next.ensures.empty in
    let ok = c.self.inside.places.ok.0 in
    rw (← c.self.view_is) (sym (ap head (behind_there c.self.inside.places.items c.self.inside.seats.items c.self.inside.cursors c.args.index c.index.result.now c.self.invariant.arranged at) ∙ none_from c.self.inside.places.items (c.index.result.now + 1) c.next_taken-next.result c.next_taken-next.ensures.low (omega arith) empty))

pub returns : goal.returns
returns c =
    let has = rw (← c.self.view_is) at c.requires in
    let lt = seat_there c.self.inside.places.items c.self.inside.seats.items c.self.inside.cursors c.self.invariant.arranged c.args.index has in
    let read = get_or_read _ _ _ lt c.index.ensures vacant in
    let at = seated_there c.self.inside.places.items c.self.inside.seats.items c.self.inside.cursors c.self.invariant.arranged c.args.index c.index.result.now has read in
    let empty = rw c.as_slice.ensures.value at c.next_taken-next.ensures.empty in
    let first = rw c.as_slice.ensures.value at c.next_taken-next.ensures.first in
    let high = rw c.as_slice.ensures.value at c.next_taken-next.ensures.high in
    let ok = c.self.inside.places.ok.0 in
    let less : c.next_taken-next.result < length c.self.inside.places.items = omega arith in
    let there = get_or_read _ _ _ less c.index-2.ensures vacant in
    rw (← c.self.view_is) (ap Some there ∙ sym (ap head (behind_there c.self.inside.places.items c.self.inside.seats.items c.self.inside.cursors c.args.index c.index.result.now c.self.invariant.arranged at) ∙ head_from c.self.inside.places.items (c.index.result.now + 1) c.next_taken-next.result c.next_taken-next.ensures.low empty (first less)))
