use Rattle.std.proofs.Common.{◌∙◌}
use Rattle.cache_loop.proofs.LoadsSettled.{settle-then}
use Rattle.cache_loop.proofs.loading.Loading.settle_answered.Goals as goal

pub loop-answer-preserved : goal.loop-answer-preserved
loop-answer-preserved g c =
    let l = c.loop-answer in
    record {
      each = settle-then g.H.Host.came g.H.Host.rests c.args.self.now.conn _ _ _ c.args.place.now l.place c.settle_pending.new.place _ l.invariant.conn l.invariant.each c.settle_pending.ensures.each;
      conn = c.settle_pending.ensures.conn ∙ l.invariant.conn;
    }
