use Rattle.std.proofs.Common.{◌∙◌, arith}
use Rattle.cache_run.proofs.devices.Sending.{sent_more, sent_kept}
use Rattle.cache_link.proofs.backlog.Backlog.write_to.Goals as goal
use Rattle.cache_link.proofs.backlog.Backlog.write_to.Goals.{in-Ok, in-Err-3}

pub loop-try-preserved : goal.loop-try-preserved
loop-try-preserved g c =
    let before = c.loop-try.invariant in
    let later = c.write.ensures.later in
    elim c.match-write.branch [
      | in-Ok w ↦ record {
        sent = sent_more _ c.loop-try.self _ _ _ _ w.in-Ok.count before.sent (rw c.as_slice.ensures at w.in-Ok.ensures.bytes) (w.self-is ∙ w.skip.ensures);
        later = omega (arith, before.later, later);
      }
      | in-Err-3 w ↦ record {
        sent = rw w.self-is (sent_kept _ c.loop-try.self _ _ _ before.sent w.in-Err.ensures.bytes);
        later = omega (arith, before.later, later);
      }
    ]
