use Rattle.std.proofs.Common.{◌≡◌, ◌-◌, ℕ, List, length, take, drop, get_or, ap, ◌∙◌, arith}
use Rattle.std.proofs.lemmas.List.{get_or_default}
use Rattle.std.proofs.lemmas.Slice.{between_to_end}
use Rattle.policy_queue.specs.declared.timers.places.Place.{Place}
use Rattle.policy_queue.specs.Timers.Places.{timer_at}
use Rattle.policy_queue.proofs.timers.Comings.{sought}
use Rattle.policy_queue.proofs.timers.row.Row.seek.Goals as goal

live_is : (ps items : List Place) (front : ℕ) → ps ≡ items → take (length ps - front) (drop front ps) ≡ drop front items
live_is ps items front e = between_to_end ps front (length ps) (omega arith) ∙ ap (drop front) e

pub returns-then-k-live : goal.returns-then-k-live
returns-then-k-live c =
    let items = c.self.inside.places.items in
    let front = c.self.inside.front in
    let is = live_is c.as_slice-places.result.now items front c.as_slice-places.ensures.value in
    let at = rw is at c.lower_bound-k.ensures in
    let none = rw is at c.if-k-live.true in
    rw (← c.self.view_is) (sought (drop front items) c.lower_bound-k.result c.args.bound c.args.id c.self.invariant.spread at.under at.from (λ d lt. absurd (omega arith)))

pub returns-else-is_named : goal.returns-else-is_named
returns-else-is_named c =
    let items = c.self.inside.places.items in
    let front = c.self.inside.front in
    let k = c.lower_bound-k.result in
    let is = live_is c.as_slice-places.result.now items front c.as_slice-places.ensures.value in
    let at = rw is at c.lower_bound-k.ensures in
    let here = rw is at c.index-live-k.is in
    let other = c.is_named.ensures.no c.if-is_named.false in
    rw (← c.self.view_is) (sought (drop front items) k c.args.bound c.args.id c.self.invariant.spread at.under at.from (λ d lt held name.
    let same : c.index-live-k.result ≡ get_or (drop front items) k d = here ∙ get_or_default (drop front items) k c.index-live-k.result d lt in
    other (ap (λ (p : Place). p.is_taken) same ∙ held) (ap (λ (p : Place). (timer_at p).id) same ∙ name)))
