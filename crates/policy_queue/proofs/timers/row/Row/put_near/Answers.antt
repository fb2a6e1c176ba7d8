use Rattle.std.proofs.Common.{◌≡◌, ◌-◌, ◌++◌, ◌∷◌, ℕ, [], List, length, take, drop, cond, ap, ◌∙◌, arith}
use Rattle.std.proofs.lemmas.List.{length-append}
use Rattle.std.proofs.lemmas.Bool.{OnTrue_from}
use Rattle.std.proofs.lemmas.Slice.{between_to_end}
use Rattle.policy_queue.specs.declared.timers.places.Place.{Place}
use Rattle.policy_queue.proofs.timers.Comings.{IsRow-front, row_came, pushed_is}
use Rattle.policy_queue.proofs.timers.row.Row.put_near.Goals as goal

live_is : (ps items : List Place) (front : ℕ) → ps ≡ items → take (length ps - front) (drop front ps) ≡ drop front items
live_is ps items front e = between_to_end ps front (length ps) (omega arith) ∙ ap (drop front) e

pub invariant_of-self : goal.invariant_of-self
invariant_of-self c =
    let items = c.self.inside.places.items in
    let front = c.self.inside.front in
    let q = rw (← c.self.view_is) at c.requires in
    let is = live_is c.as_slice-places.result.now items front c.as_slice-places.ensures.value in
    let at = rw (is, c.key.ensures, c.if-at-eq0.true) at c.lower_bound-at.ensures in
    IsRow-front items front c.args.place.now c.if-self-gt0.true c.self.invariant q.taken at.from q.new

pub invariant_of-self-then-len-capacity : goal.invariant_of-self-then-len-capacity
invariant_of-self-then-len-capacity c =
    let items = c.self.inside.places.items in
    let front = c.self.inside.front in
    let p = c.args.place.now in
    let q = rw (← c.self.view_is) at c.requires in
    let is = live_is c.as_slice-places.result.now items front c.as_slice-places.ensures.value in
    let at = rw (is, c.key.ensures) at c.lower_bound-at.ensures in
    let end = rw is at c.if-at-live.true in
    let ok = c.self.inside.places.ok in
    let within = c.self.invariant.within in
    let new : c.push.new.self.items ≡ items ++ p ∷ [] = c.push.ensures.items ∙ ap (λ b. cond b (items ++ p ∷ []) items) (c.push.ensures.succeeds (omega arith)) in
    let len = length-append items (p ∷ []) in
    rw new (row_came items (items ++ p ∷ []) front c.lower_bound-at.result p c.self.invariant (omega arith) (pushed_is items front c.lower_bound-at.result p within end) q.taken at.under at.from q.new).0

pub returns-then-len-capacity-clause-comes : goal.returns-then-len-capacity-clause-comes
returns-then-len-capacity-clause-comes c =
    let items = c.self.inside.places.items in
    let front = c.self.inside.front in
    let p = c.args.place.now in
    let q = rw (← c.self.view_is) at c.requires in
    let is = live_is c.as_slice-places.result.now items front c.as_slice-places.ensures.value in
    let at = rw (is, c.key.ensures) at c.lower_bound-at.ensures in
    let end = rw is at c.if-at-live.true in
    let ok = c.self.inside.places.ok in
    let within = c.self.invariant.within in
    let new : c.push.new.self.items ≡ items ++ p ∷ [] = c.push.ensures.items ∙ ap (λ b. cond b (items ++ p ∷ []) items) (c.push.ensures.succeeds (omega arith)) in
    let len = length-append items (p ∷ []) in
    rw (← c.self.view_is, new) (OnTrue_from _ _ (λ _. (row_came items (items ++ p ∷ []) front c.lower_bound-at.result p c.self.invariant (omega arith) (pushed_is items front c.lower_bound-at.result p within end) q.taken at.under at.from q.new).1))
