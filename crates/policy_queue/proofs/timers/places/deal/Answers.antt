use Rattle.std.proofs.Common.{take, arith}
use Rattle.policy_queue.specs.Timers.Places.{taken}
use Rattle.policy_queue.proofs.timers.Spreads.{dealt_timer, dealt_spare}
use Rattle.policy_queue.proofs.timers.places.deal.Goals as goal
use Rattle.policy_queue.proofs.timers.places.deal.Goals.{then-owed-held+then-left-gt1, else-owed-held, else-owed-held-via-then-owed-held+else-left-gt1, else-owed-held-via-else-owed-held}

pub loop-left-preserved : goal.loop-left-preserved
loop-left-preserved c =
    let h = c.loop-left.invariant in
    let ts = taken (take c.args.held c.args.places.now) in
    let xs = c.loop-left.places in
    let test = c.loop-left-test.true in
    let len = c.if-owed-held.auto.places in
    elim c.if-owed-held.branch [
      | then-owed-held+then-left-gt1 w ↦
          let more = w.if-left-gt1.true in
          let due = w.if-owed-held.true in
          (rw (w.left-is) (omega arith), rw (w.left-is) (omega arith), rw len (omega arith), rw (w.owed-is) (omega arith), rw len h.4, rw (w.left-is, w.places-is) (dealt_timer xs c.loop-left.left c.loop-left.end w.index-places-left.result ts h.0 h.1 h.2 w.index-places-left.is h.5))
      | else-owed-held w ↦
          let owed = w.saturating_sub-owed.ensures in
          (rw (w.left-is) (omega arith), rw (w.left-is) (omega arith), rw len (omega arith), rw (w.owed-is) (omega arith), rw len h.4, rw (w.left-is, w.places-is, w.spared.ensures) (dealt_spare xs c.loop-left.left c.loop-left.end w.index-places-left-else-owed-held.result ts h.0 test h.2 w.index-places-left-else-owed-held.is h.5))
    ]
