use Rattle.std.proofs.Common.{◌≡◌, length, drop, length-drop, ap, ◌∙◌, inl, inr, ⊎_elim, arith}
use Rattle.std.proofs.lemmas.Grind.{common_steps}
use Rattle.cache_run.proofs.devices.Sending.{sent_more, sent_kept, failed_before, failed_after}
use Rattle.cache_run.proofs.devices.output.send.Goals as goal
use Rattle.cache_run.proofs.devices.output.send.Goals.{in-Ok, in-Err+else-ne}

pub loop-turn-preserved : goal.loop-turn-preserved
loop-turn-preserved g c = elim c.match-write.branch [
  | in-Ok w ↦
      let before = c.loop-turn.invariant in
      let bound = w.in-Ok.ensures.bound in
      let some = w.in-Ok.count-test.1 in
      let left : c.match-write.rest.now ≡ drop w.in-Ok.count c.loop-turn.rest.now = ap (λ r. r.now) w.rest-is ∙ grind (arith, common_steps) in
      record {
        sent = sent_more _ _ _ _ _ _ w.in-Ok.count before.sent w.in-Ok.ensures.bytes left;
        count = omega arith;
        turns = ⊎_elim
            (λ failed. inl (failed_before _ _ _ failed c.write.ensures.later))
            (λ sent. inr (omega (arith, ap length left, length-drop w.in-Ok.count c.loop-turn.rest.now)))
            before.turns;
      }
  | in-Err+else-ne w ↦ record {
    sent = rw (ap (λ r. r.now) w.rest-is) (sent_kept _ _ _ _ _ c.loop-turn.invariant.sent w.in-Err.ensures.bytes);
    count = omega arith;
    turns = inl (failed_after _ _ _ c.loop-turn.invariant.count c.write.ensures.later w.in-Err.ensures.failed);
  }
]
