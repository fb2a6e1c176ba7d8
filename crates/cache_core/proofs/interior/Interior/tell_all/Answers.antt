use Rattle.std.proofs.Common.{drop, get_or, refl, sym, ap, ◌∙◌, subst, arith, ◌≡◌, ◌+◌, ◌-◌, ◌∷◌, [], ℕ, List, length, map, take}
use Rattle.std.proofs.lemmas.List.{drop_all, take_all}
use Rattle.audit_model.specs.Replies.{outcome_text}
use Rattle.audit_model.specs.Steps.{Deliver, Task}
use Rattle.audit_model.specs.declared.config.Config.{Config}
use Rattle.cache_commands.proofs.Taking.{taken-on, taken-same}
use Rattle.cache_core.specs.Settled.{HasSpareFor, IsAmid, Parts}
use Rattle.cache_core.specs.Settling.{AreWaiting, HaveReplyRoom, IsWaitingAt}
use Rattle.cache_core.proofs.Amid.{room-least, parts-none, parts-on, amid-all, amid-next, mapped-more, there-number}
use Rattle.cache_core.proofs.Touched.{first-waits, next-waits, left-room, left-wait, once-first, rest-next, waits-above, waits-inside, waits-numbered}
use Rattle.cache_core.proofs.interior.Interior.tell_all.Goals as goal

pub loop-number-init : goal.loop-number-init
loop-number-init g c = record {
  ran = λ now amid. parts-none g.S.Store.view g.T.Tape.view now c.args.self.now.base c.args.self.now.connections amid.in_time.0;
  amid = λ now lines amid. amid;
  spare = c.requires.spare;
  store = refl;
  waits = c.requires.waits;
  room = c.requires.room;
  count = refl;
  goes = taken-same c.args.self.now.base.loads;
}

pub overflow_sub-index : goal.overflow_sub-index
overflow_sub-index g c =
    let config = (g.S.Store.view c.args.self.now.base.store).frame.config in
    let first = next-waits config c.loop-number.self.connections c.args.waiting.now c.loop-number.number-index c.loop-number-test.true c.loop-number.invariant.waits in
    waits-above config c.loop-number.self.connections _ first

pub tell_at-requires : goal.tell_at-requires
tell_at-requires g c =
    let old = c.args.self.now in
    let mid = c.loop-number.self in
    let config = (g.S.Store.view old.base.store).frame.config in
    let ns = c.args.waiting.now in
    let at = c.loop-number.number-index in
    let lt = c.loop-number-test.true in
    let i = c.loop-number.invariant in
    let n = get_or ns at 0 in
    let first = next-waits config mid.connections ns at lt i.waits in
    record {
      spare = (let e = ap length (rest-next ns at lt) in room-least (length (drop at ns)) 1 (g.T.Tape.view mid.base.tape) (omega (arith, e)) i.spare);
      inside = waits-inside config mid.connections _ first;
      can_be_told = record {
        waits = subst (λ (k : Config). IsWaitingAt k mid.connections (n - 1 + 1)) (sym (ap (λ s. (g.S.Store.view s).frame.config) i.store)) (waits-numbered config mid.connections _ first);
        room = (subst (HaveReplyRoom mid.connections (length (outcome_text c.args.outcome.now))) (rest-next ns at lt) i.room) n (once-first n (drop (at + 1) ns));
      };
    }

pub loop-number-preserved : goal.loop-number-preserved
loop-number-preserved g c =
    let ns = c.args.waiting.now in
    let at = c.loop-number.number-index in
    let n = get_or ns at 0 in
    let rest = drop (at + 1) ns in
    let next = rest-next ns at c.loop-number-test.true in
    let i = c.loop-number.invariant in
    let config = (g.S.Store.view c.args.self.now.base.store).frame.config in
    let mid = c.loop-number.self.connections in
    let waits = subst (AreWaiting config mid) next i.waits in
    let first = first-waits config mid n rest waits in
    let number : n - 1 + 1 ≡ n = there-number n (waits-above config mid n first) in
    let size = ap length next in
    record {
      ran = λ now amid.
          let here = amid-all g.S.Store.view g.T.Tape.view now c.args.self.now.base c.loop-number.self.base c.args.self.now.connections mid (length ns) (length (drop at ns)) (i.amid now) amid in
          let one = subst (λ (k : ℕ). Parts g.S.Store.view g.T.Tape.view now c.loop-number.self.base c.tell_at.new.self.base mid c.tell_at.new.self.connections (Deliver k c.args.outcome.now ∷ [])) number (c.tell_at.ensures.ran now (amid-next g.S.Store.view g.T.Tape.view now c.loop-number.self.base mid ns at c.loop-number-test.true here)) in
          subst (λ (ts : List Task). Parts g.S.Store.view g.T.Tape.view now c.args.self.now.base c.tell_at.new.self.base c.args.self.now.connections c.tell_at.new.self.connections ts) (sym (mapped-more (λ conn. Deliver conn c.args.outcome.now) ns at c.loop-number-test.true))
          (parts-on g.S.Store.view g.T.Tape.view now c.args.self.now.base c.loop-number.self.base c.tell_at.new.self.base c.args.self.now.connections mid c.tell_at.new.self.connections (map (λ conn. Deliver conn c.args.outcome.now) (take at ns)) (Deliver n c.args.outcome.now ∷ []) (i.ran now amid) one);
      amid = λ now lines amid.
          let h = i.amid now lines amid in
          c.tell_at.ensures.amid now (length rest + lines) (subst (λ k. IsAmid g.S.Store.view g.T.Tape.view now c.loop-number.self.base mid k) (let e = ap length next in omega (arith, e)) h);
      spare = c.tell_at.ensures.spare (length rest) (subst (λ k. HasSpareFor k (g.T.Tape.view c.loop-number.self.base.tape)) (let e = size in omega (arith, e)) i.spare);
      store = c.tell_at.ensures.rest.store ∙ i.store;
      waits = left-wait config n rest mid c.tell_at.new.self.connections waits c.tell_at.ensures.rest.others;
      room = left-room config n (length (outcome_text c.args.outcome.now)) rest mid c.tell_at.new.self.connections waits (subst (HaveReplyRoom mid (length (outcome_text c.args.outcome.now))) next i.room) c.tell_at.ensures.rest.others;
      count = c.tell_at.ensures.rest.others.count ∙ i.count;
      goes = taken-on i.goes c.tell_at.ensures.rest.goes;
    }

pub returns-clause-ran : goal.returns-clause-ran
returns-clause-ran g c =
    let at = c.loop-number.number-index in
    let ns = c.args.waiting.now in
    λ now amid. subst (λ (xs : List ℕ). Parts g.S.Store.view g.T.Tape.view now c.args.self.now.base c.loop-number.self.base c.args.self.now.connections c.loop-number.self.connections (map (λ conn. Deliver conn c.args.outcome.now) xs)) (take_all at ns c.loop-number-test.false) (c.loop-number.invariant.ran now amid)

pub returns-clause-amid : goal.returns-clause-amid
returns-clause-amid g c = λ now lines amid.
    let none = ap length (drop_all c.loop-number.number-index c.args.waiting.now c.loop-number-test.false) in
    subst (λ k. IsAmid g.S.Store.view g.T.Tape.view now c.loop-number.self.base c.loop-number.self.connections k) (omega (arith, none)) (c.loop-number.invariant.amid now lines amid)
