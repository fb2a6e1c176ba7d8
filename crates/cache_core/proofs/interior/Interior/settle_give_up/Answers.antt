use Rattle.std.proofs.Common.{sym, ap, ◌∙◌, subst, arith, ℕ, List, length}
use Rattle.audit_model.specs.Places.{tasks_to_give_up}
use Rattle.cache_core.specs.Settling.{AreWaiting}
use Rattle.cache_core.specs.Settled.{Parts}
use Rattle.cache_lines.specs.Waiting.{under_way}
use Rattle.cache_core.proofs.Admitted.{amid-loads, left-but, waiting-is}
use Rattle.cache_core.proofs.interior.Interior.settle_give_up.Goals as goal

pub give_up_all-requires : goal.give_up_all-requires
give_up_all-requires g c =
    let old = c.args.self.now in
    let is = c.as_slice.ensures.value ∙ waiting-is c.args.load (under_way old.base.loads) _ c.in-Some.ensures.settled in
    let count = ap length is in
    record {
      amid = amid-loads g.S.Store.view g.T.Tape.view c.args.now old.base c.settle.new.self old.connections _ _ (omega (arith, count)) c.requires.amid;
      waits = subst (AreWaiting (g.S.Store.view old.base.store).frame.config old.connections) (sym is) c.requires.waits;
    }

pub returns-clause-ran : goal.returns-clause-ran
returns-clause-ran g c =
    let base = c.args.self.now.base in
    let l = under_way base.loads in
    let is = c.as_slice.ensures.value ∙ waiting-is c.args.load l _ c.in-Some.ensures.settled in
    record {
      left = c.settle.new.self;
      left_is = left-but c.args.load base.loads c.settle.new.self c.in-Some.ensures.sent c.in-Some.ensures.pending;
      parts = subst (λ (xs : List ℕ). Parts g.S.Store.view g.T.Tape.view c.args.now (record { store = base.store; loads = c.settle.new.self; tape = base.tape }) c.give_up_all.new.self.base c.args.self.now.connections c.give_up_all.new.self.connections (tasks_to_give_up xs)) is c.give_up_all.ensures.ran;
    }
