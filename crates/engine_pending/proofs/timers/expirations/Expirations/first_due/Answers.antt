use Rattle.std.proofs.Common.{◌≡◌, arith}
use Rattle.engine_pending.specs.Timers.Firsts.{first_at}
use Rattle.engine_pending.proofs.timers.Showing.{none-due}
use Rattle.engine_pending.proofs.timers.expirations.Expirations.first_due.Goals as goal

pub returns-then-as_nanos-first-clause-none : goal.returns-then-as_nanos-first-clause-none
returns-then-as_nanos-first-clause-none c =
    let e = c.self.inside.expiries.items in
    let f = c.self.inside.firsts.items in
    let shown : c.first_at-first.result ≡ first_at e f 0 = cc in
    rw (← c.self.view_is) (none-due e f c.args.now c.self.invariant (omega (arith, shown)))
