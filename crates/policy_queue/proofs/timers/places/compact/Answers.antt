use Rattle.std.proofs.Common.{drop, arith}
use Rattle.policy_queue.specs.Timers.Places.{taken}
use Rattle.policy_queue.proofs.timers.Spreads.{IsCompact-timer, IsCompact-spare}
use Rattle.policy_queue.proofs.timers.places.compact.Goals as goal
use Rattle.policy_queue.proofs.timers.places.compact.Goals.{then-place, else-place}

pub loop-from-preserved : goal.loop-from-preserved
loop-from-preserved c =
    let h = c.loop-from.invariant in
    let ts = taken (drop c.args.front c.args.places.now.items) in
    let ok = c.loop-from.places.ok in
    elim c.if-place.branch [
      | then-place w ↦ rw (w.places-is, w.filled-is) (omega arith, h.1, h.2, IsCompact-timer c.loop-from.places.items c.loop-from.filled c.loop-from.from c.index-place.result.now ts h.0 (omega arith) c.index-place.ensures w.if-place.true h.3)
      | else-place w ↦ rw (w.places-is, w.filled-is) (omega arith, h.1, h.2, IsCompact-spare c.loop-from.places.items c.loop-from.filled c.loop-from.from c.index-place.result.now ts (omega arith) c.index-place.ensures w.if-place.false h.3)
    ]
