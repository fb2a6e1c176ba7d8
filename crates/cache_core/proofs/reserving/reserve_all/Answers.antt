use Rattle.std.proofs.Common.{sym, subst, get_or, arith, take}
use Rattle.cache_core.specs.Settling.{HaveReplyRoom}
use Rattle.cache_core.proofs.Touched.{all-itself, all-on, room-more, front-more}
use Rattle.cache_core.proofs.reserving.reserve_all.Goals as goal

pub returns-in_err-reserve_at-clause-same : goal.returns-in_err-reserve_at-clause-same
returns-in_err-reserve_at-clause-same c = all-on c.args.connections.now c.loop-number.connections c.reserve_at.new.connections c.loop-number.invariant.same c.reserve_at.ensures.same

pub loop-number-preserved : goal.loop-number-preserved
loop-number-preserved c =
    let at = c.loop-number.number-index in
    let ns = c.args.waiting.now in
    let new = c.reserve_at.new.connections in
    record {
      same = all-on c.args.connections.now c.loop-number.connections new c.loop-number.invariant.same c.reserve_at.ensures.same;
      room = subst (HaveReplyRoom new c.args.size) (sym (front-more ns at c.loop-number-test.true))
          (room-more c.loop-number.connections new c.args.size (get_or ns at 0) (take at ns) c.loop-number.invariant.room c.reserve_at.ensures.others c.in_ok-reserve_at.ensures.room);
    }

pub loop-number-init : goal.loop-number-init
loop-number-init c = record { same = all-itself c.args.connections.now; room = λ n some k at. absurd (omega (arith, some)) }
