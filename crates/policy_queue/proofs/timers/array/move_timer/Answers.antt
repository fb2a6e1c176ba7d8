use Rattle.std.proofs.Common.{◌≡◌, true, sym, ap, ◌∙◌, subst}
use Rattle.policy_queue.specs.declared.timers.array.Timer.{Timer}
use Rattle.policy_queue.specs.declared.timers.places.Place.{Place}
use Rattle.policy_queue.specs.Timers.Timers.{moved}
use Rattle.policy_queue.specs.Timers.Places.{taken, timer_at, Comes}
use Rattle.policy_queue.proofs.timers.Wheels.{MovesTo-both}
use Rattle.policy_queue.proofs.timers.array.move_timer.Goals as goal

pub returns-clause-moves : goal.returns-clause-moves
returns-clause-moves c =
    let due = c.args.due in
    let t = c.take-timer.result in
    let again : Timer → Place = λ u. record { placed = due.time; serial = u.id.serial; entry = u.node.entry_info; slot = u.id.slot; expiry_gen = due.expiry_gen; is_taken = true } in
    let e = c.take-timer.ensures.timer (again t) in
    let same : timer_at (again t) ≡ moved t due.time due.expiry_gen = ap (λ u. timer_at (again u)) e ∙ sym (ap (λ u. moved u due.time due.expiry_gen) e) in
    let old = taken c.args.row.now.places in
    let middle = taken c.take-timer.new.row.places in
    let new = taken c.add.new.row.places in
    (t, c.take-timer.ensures.timer, MovesTo-both c.args.k due.time due.expiry_gen old middle new t c.take-timer.ensures.goes (subst (λ (u : Timer). Comes middle new u) same c.add.ensures.comes))
