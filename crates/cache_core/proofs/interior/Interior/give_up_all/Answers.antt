use Rattle.std.proofs.Common.{drop, get_or, refl, sym, ap, ◌∙◌, subst, arith, ◌≡◌, ◌+◌, ◌-◌, ◌∷◌, [], ℕ, List, length, take}
use Rattle.std.proofs.lemmas.List.{take_all}
use Rattle.audit_model.specs.Places.{tasks_to_give_up}
use Rattle.audit_model.specs.Steps.{RunAgain, RunLines, Task}
use Rattle.audit_model.specs.declared.config.Config.{Config}
use Rattle.cache_commands.proofs.Taking.{taken-on, taken-same}
use Rattle.cache_core.specs.Settled.{IsAmid, Parts}
use Rattle.cache_core.specs.Settling.{AreWaiting, IsWaitingAt}
use Rattle.cache_commands.specs.Promises.{Frame}
use Rattle.cache_core.proofs.Amid.{parts-none, parts-on, amid-all, amid-two, give-up-more, there-number}
use Rattle.cache_core.proofs.Touched.{first-waits, next-waits, left-wait, rest-next, waits-above, waits-inside, waits-numbered}
use Rattle.cache_core.proofs.interior.Interior.give_up_all.Goals as goal

pub loop-number-init : goal.loop-number-init
loop-number-init g c = record {
  ran = parts-none g.S.Store.view g.T.Tape.view c.args.now c.args.self.now.base c.args.self.now.connections c.requires.amid.in_time.0;
  amid = λ lines amid. amid;
  waits = c.requires.waits;
  count = refl;
  goes = taken-same c.args.self.now.base.loads;
}

pub overflow_sub-index : goal.overflow_sub-index
overflow_sub-index g c =
    let config = (g.S.Store.view c.args.self.now.base.store).frame.config in
    let first = next-waits config c.loop-number.self.connections c.args.waiting.now c.loop-number.number-index c.loop-number-test.true c.loop-number.invariant.waits in
    waits-above config c.loop-number.self.connections _ first

pub give_up_at-requires : goal.give_up_at-requires
give_up_at-requires g c =
    let old = c.args.self.now in
    let mid = c.loop-number.self in
    let config = (g.S.Store.view old.base.store).frame.config in
    let ns = c.args.waiting.now in
    let at = c.loop-number.number-index in
    let lt = c.loop-number-test.true in
    let i = c.loop-number.invariant in
    let first = next-waits config mid.connections ns at lt i.waits in
    record {
      amid = amid-two g.S.Store.view g.T.Tape.view c.args.now mid.base mid.connections ns at lt (amid-all g.S.Store.view g.T.Tape.view c.args.now old.base mid.base old.connections mid.connections (length ns + length ns) (length (drop at ns) + length (drop at ns)) i.amid c.requires.amid);
      inside = waits-inside config mid.connections _ first;
      waits = subst (λ (k : Config). IsWaitingAt k mid.connections (get_or ns at 0 - 1 + 1)) (sym (ap (λ (f : Frame). f.config) i.ran.frame.rest)) (waits-numbered config mid.connections _ first);
    }

pub loop-number-preserved : goal.loop-number-preserved
loop-number-preserved g c =
    let ns = c.args.waiting.now in
    let at = c.loop-number.number-index in
    let n = get_or ns at 0 in
    let rest = drop (at + 1) ns in
    let next = rest-next ns at c.loop-number-test.true in
    let i = c.loop-number.invariant in
    let config = (g.S.Store.view c.args.self.now.base.store).frame.config in
    let mid = c.loop-number.self.connections in
    let waits = subst (AreWaiting config mid) next i.waits in
    let first = first-waits config mid n rest waits in
    let number : n - 1 + 1 ≡ n = there-number n (waits-above config mid n first) in
    let one = subst (λ (k : ℕ). Parts g.S.Store.view g.T.Tape.view c.args.now c.loop-number.self.base c.give_up_at.new.self.base mid c.give_up_at.new.self.connections (RunAgain k ∷ RunLines k ∷ [])) number c.give_up_at.ensures.ran in
    record {
      ran = subst (λ (ts : List Task). Parts g.S.Store.view g.T.Tape.view c.args.now c.args.self.now.base c.give_up_at.new.self.base c.args.self.now.connections c.give_up_at.new.self.connections ts) (sym (give-up-more ns at c.loop-number-test.true))
          (parts-on g.S.Store.view g.T.Tape.view c.args.now c.args.self.now.base c.loop-number.self.base c.give_up_at.new.self.base c.args.self.now.connections mid c.give_up_at.new.self.connections (tasks_to_give_up (take at ns)) (RunAgain n ∷ RunLines n ∷ []) i.ran one);
      amid = λ lines amid.
          let h = i.amid lines amid in
          c.give_up_at.ensures.amid (length rest + length rest + lines) (subst (λ k. IsAmid g.S.Store.view g.T.Tape.view c.args.now c.loop-number.self.base mid k) (let e = ap length next in omega (arith, e)) h);
      waits = left-wait config n rest mid c.give_up_at.new.self.connections waits c.give_up_at.ensures.others;
      count = c.give_up_at.ensures.others.count ∙ i.count;
      goes = taken-on i.goes c.give_up_at.ensures.goes;
    }

pub returns-clause-ran : goal.returns-clause-ran
returns-clause-ran g c =
    let at = c.loop-number.number-index in
    let ns = c.args.waiting.now in
    subst (λ (xs : List ℕ). Parts g.S.Store.view g.T.Tape.view c.args.now c.args.self.now.base c.loop-number.self.base c.args.self.now.connections c.loop-number.self.connections (tasks_to_give_up xs)) (take_all at ns c.loop-number-test.false) c.loop-number.invariant.ran
