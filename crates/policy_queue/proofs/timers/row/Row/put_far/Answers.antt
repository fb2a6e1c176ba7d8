use Rattle.std.proofs.Common.{◌≡◌, ◌-◌, ◌+◌, ℕ, List, length, take, drop, ap, ◌∙◌, arith}
use Rattle.std.specs.List.{insert}
use Rattle.std.proofs.lemmas.List.{length-drop}
use Rattle.std.proofs.lemmas.List.Edits.{length-insert}
use Rattle.std.proofs.lemmas.Slice.{between_to_end}
use Rattle.policy_queue.specs.declared.timers.places.Place.{Place}
use Rattle.policy_queue.proofs.timers.Comings.{row_came, inserted_is}
use Rattle.policy_queue.proofs.timers.row.Row.put_far.Goals as goal

live_is : (ps items : List Place) (front : ℕ) → ps ≡ items → take (length ps - front) (drop front ps) ≡ drop front items
live_is ps items front e = between_to_end ps front (length ps) (omega arith) ∙ ap (drop front) e

pub invariant_of-self : goal.invariant_of-self
invariant_of-self c =
    let items = c.self.inside.places.items in
    let front = c.self.inside.front in
    let p = c.args.place.now in
    let k = c.lower_bound-at.result in
    let q = rw (← c.self.view_is) at c.requires in
    let is = live_is c.as_slice-places.result.now items front c.as_slice-places.ensures.value in
    let at = rw (is, c.key.ensures) at c.lower_bound-at.ensures in
    let within = at.within in
    let inside = c.self.invariant.within in
    let len = length-drop front items in
    let new : c.insert.new.self.items ≡ insert items (front + k) p = c.in-Ok.ensures.items in
    let longer = length-insert items (front + k) p (omega arith) in
    rw new (row_came items (insert items (front + k) p) front k p c.self.invariant (omega arith) (inserted_is items front k p (omega arith)) q.taken at.under at.from q.new).0

pub returns-clause-comes : goal.returns-clause-comes
returns-clause-comes c =
    let items = c.self.inside.places.items in
    let front = c.self.inside.front in
    let p = c.args.place.now in
    let k = c.lower_bound-at.result in
    let q = rw (← c.self.view_is) at c.requires in
    let is = live_is c.as_slice-places.result.now items front c.as_slice-places.ensures.value in
    let at = rw (is, c.key.ensures) at c.lower_bound-at.ensures in
    let within = at.within in
    let inside = c.self.invariant.within in
    let len = length-drop front items in
    let new : c.insert.new.self.items ≡ insert items (front + k) p = c.in-Ok.ensures.items in
    let longer = length-insert items (front + k) p (omega arith) in
    rw (← c.self.view_is, new) (row_came items (insert items (front + k) p) front k p c.self.invariant (omega arith) (inserted_is items front k p (omega arith)) q.taken at.under at.from q.new).1
