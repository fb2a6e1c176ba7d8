use Rattle.std.proofs.Common.{sym, ap, ◌∙◌, subst, arith, ◌++◌, ℕ, List, length, map}
use Rattle.audit_model.specs.Replies.{outcome_text}
use Rattle.audit_model.specs.Steps.{Deliver, RunLines}
use Rattle.cache_core.specs.Settled.{Parts}
use Rattle.cache_core.specs.Settling.{AreWaiting, HaveReplyRoom}
use Rattle.cache_lines.specs.Waiting.{under_way}
use Rattle.cache_core.proofs.Amid.{parts-on, room-least}
use Rattle.cache_core.proofs.Admitted.{amid-loads, left-but, waiting-is}
use Rattle.cache_core.proofs.Touched.{wait-there}
use Rattle.cache_core.proofs.interior.Interior.hand_out.Goals as goal

pub tell_all-requires : goal.tell_all-requires
tell_all-requires g c =
    let old = c.args.self.now in
    let is = c.as_slice-waiting.ensures.value ∙ waiting-is c.args.load (under_way old.base.loads) _ c.in-Some.ensures.settled in
    let count = ap length is in
    record {
      spare = room-least _ _ (g.T.Tape.view old.base.tape) (omega (arith, count)) c.requires.amid.room;
      waits = subst (AreWaiting (g.S.Store.view old.base.store).frame.config old.connections) (sym is) c.requires.waits;
      room = subst (HaveReplyRoom old.connections (length (outcome_text c.args.outcome.now))) (sym is) c.requires.room;
    }

pub resume_all-requires : goal.resume_all-requires
resume_all-requires g c =
    let old = c.args.self.now in
    let config = (g.S.Store.view old.base.store).frame.config in
    let ns = c.as_slice-waiting.result.now in
    let is = c.as_slice-waiting.ensures.value ∙ waiting-is c.args.load (under_way old.base.loads) _ c.in-Some.ensures.settled in
    let count = ap length is in
    record {
      amid = c.tell_all.ensures.amid c.args.now (length ns) (amid-loads g.S.Store.view g.T.Tape.view c.args.now old.base c.settle.new.self old.connections _ _ (omega (arith, count)) c.requires.amid);
      inside = wait-there config ns old.connections c.tell_all.new.self.connections (subst (AreWaiting config old.connections) (sym is) c.requires.waits) c.tell_all.ensures.count;
    }

pub returns-clause-out : goal.returns-clause-out
returns-clause-out g c =
    let view = g.S.Store.view in
    let tape = g.T.Tape.view in
    let base = c.args.self.now.base in
    let l = under_way base.loads in
    let ns = c.as_slice-waiting.result.now in
    let is = c.as_slice-waiting.ensures.value ∙ waiting-is c.args.load l _ c.in-Some.ensures.settled in
    let outcome = c.args.outcome.now in
    let count = ap length is in
    record {
      left = c.settle.new.self;
      left_is = left-but c.args.load base.loads c.settle.new.self c.in-Some.ensures.sent c.in-Some.ensures.pending;
      parts = subst (λ (xs : List ℕ). Parts view tape c.args.now (record { store = base.store; loads = c.settle.new.self; tape = base.tape }) c.resume_all.new.self.base c.args.self.now.connections c.resume_all.new.self.connections (map (λ conn. Deliver conn outcome) xs ++ map RunLines xs)) is
          (parts-on view tape c.args.now _ c.tell_all.new.self.base c.resume_all.new.self.base c.args.self.now.connections c.tell_all.new.self.connections c.resume_all.new.self.connections (map (λ conn. Deliver conn outcome) ns) (map RunLines ns) (c.tell_all.ensures.ran c.args.now (amid-loads view tape c.args.now base c.settle.new.self c.args.self.now.connections _ _ (omega (arith, count)) c.requires.amid)) c.resume_all.ensures.ran);
    }
