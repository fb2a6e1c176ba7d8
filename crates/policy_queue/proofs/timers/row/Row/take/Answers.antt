use Rattle.std.proofs.Common.{◌≡◌, ◌+◌, sym, ap, ◌∙◌, arith}
use Rattle.std.proofs.lemmas.List.{get_or_default, length-set}
use Rattle.policy_queue.specs.Timers.Places.{timer_at}
use Rattle.policy_queue.proofs.timers.Spreads.{spare}
use Rattle.policy_queue.proofs.timers.Comings.{inside_at, held_at, goes_of, left_at, IsRow-left, IsRow-first, first_left, fewer_left}
use Rattle.policy_queue.proofs.timers.row.Row.take.Goals as goal

pub invariant_of-self : goal.invariant_of-self
invariant_of-self c =
    let items = c.self.inside.places.items in
    let front = c.self.inside.front in
    let y = c.index_mut.result.now in
    let first = rw c.as_slice.ensures.value at c.first_taken-self-inside.ensures in
    let behind = first.behind in
    let within = first.within in
    let len = length-set items (front + c.args.k) (spare y) in
    IsRow-first items front (front + c.args.k) c.first_taken-self-inside.result (spare y) c.self.invariant (omega arith) (omega arith) (omega arith) first.starts

pub invariant_of-self-else-k-eq0 : goal.invariant_of-self-else-k-eq0
invariant_of-self-else-k-eq0 c =
    let items = c.self.inside.places.items in
    let q = rw (← c.self.view_is) at c.requires in
    IsRow-left items c.self.inside.front c.args.k c.index_mut.result.now c.self.invariant c.if-k-eq0.false (inside_at items c.self.inside.front c.args.k q) c.index_mut.ensures.value

pub returns-then-k-eq0-clause-room : goal.returns-then-k-eq0-clause-room
returns-then-k-eq0-clause-room c =
    let items = c.self.inside.places.items in
    let front = c.self.inside.front in
    let k = c.args.k in
    let y = c.index_mut.result.now in
    let q = rw (← c.self.view_is) at c.requires in
    let first = rw c.as_slice.ensures.value at c.first_taken-self-inside.ensures in
    let e = c.index_mut.ensures.value in
    let is = first_left items front k c.first_taken-self-inside.result (spare y) c.if-k-eq0.true first.same in
    let few = fewer_left items front k y _ (inside_at items front k q) e (held_at items front k y q e) is in
    let ok = c.self.inside.places.ok in
    omega arith

pub returns-then-k-eq0-clause-goes : goal.returns-then-k-eq0-clause-goes
returns-then-k-eq0-clause-goes c =
    let items = c.self.inside.places.items in
    let front = c.self.inside.front in
    let k = c.args.k in
    let y = c.index_mut.result.now in
    let q = rw (← c.self.view_is) at c.requires in
    let first = rw c.as_slice.ensures.value at c.first_taken-self-inside.ensures in
    let e = c.index_mut.ensures.value in
    let is = first_left items front k c.first_taken-self-inside.result (spare y) c.if-k-eq0.true first.same in
    let lt = inside_at items front k q in
    let same : c.timer_in-timer.result ≡ timer_at y = c.timer_in-timer.ensures ∙ ap timer_at (c.index.ensures ∙ sym (get_or_default items (front + k) y c.index.result.now lt) ∙ sym e) in
    rw (← c.self.view_is) (goes_of items front k y _ c.timer_in-timer.result q e same is)

pub returns-else-k-eq0-clause-goes : goal.returns-else-k-eq0-clause-goes
returns-else-k-eq0-clause-goes c =
    let items = c.self.inside.places.items in
    let front = c.self.inside.front in
    let k = c.args.k in
    let y = c.index_mut.result.now in
    let q = rw (← c.self.view_is) at c.requires in
    let e = c.index_mut.ensures.value in
    let lt = inside_at items front k q in
    let same : c.timer_in-timer.result ≡ timer_at y = c.timer_in-timer.ensures ∙ ap timer_at (c.index.ensures ∙ sym (get_or_default items (front + k) y c.index.result.now lt) ∙ sym e) in
    rw (← c.self.view_is) (goes_of items front k y _ c.timer_in-timer.result q e same (left_at items front k y lt))

pub returns-else-k-eq0-clause-room : goal.returns-else-k-eq0-clause-room
returns-else-k-eq0-clause-room c =
    let items = c.self.inside.places.items in
    let front = c.self.inside.front in
    let k = c.args.k in
    let y = c.index_mut.result.now in
    let q = rw (← c.self.view_is) at c.requires in
    let e = c.index_mut.ensures.value in
    let lt = inside_at items front k q in
    let few = fewer_left items front k y _ lt e (held_at items front k y q e) (left_at items front k y lt) in
    let ok = c.self.inside.places.ok in
    omega arith
