use Rattle.std.proofs.Common.{arith}
use Rattle.policy_queue.proofs.timers.Comings.{first_of}
use Rattle.policy_queue.proofs.timers.row.Row.first.Goals as goal

pub returns-then-self-len : goal.returns-then-self-len
returns-then-self-len c =
    let ok = c.self.inside.places.ok in
    rw (← c.self.view_is) (first_of c.self.inside.places.items c.self.inside.front c.index.result.now c.timer_in.result c.self.invariant (omega arith) c.index.ensures c.timer_in.ensures)
