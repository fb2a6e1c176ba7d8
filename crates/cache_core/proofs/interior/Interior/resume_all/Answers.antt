use Rattle.std.proofs.Common.{drop, get_or, refl, sym, ap, ◌∙◌, subst, arith, ◌≡◌, ◌+◌, ◌-◌, ◌∷◌, [], ℕ, List, length, map, take}
use Rattle.std.proofs.lemmas.List.{take_all}
use Rattle.audit_model.specs.Steps.{RunLines, Task}
use Rattle.cache_commands.proofs.Taking.{taken-on, taken-same}
use Rattle.cache_core.specs.Settled.{IsAmid, Parts}
use Rattle.cache_core.specs.Settling.{AreThere}
use Rattle.cache_core.proofs.Amid.{parts-none, parts-on, amid-all, amid-next, first-there, left-there, next-there, mapped-more, there-number}
use Rattle.cache_core.proofs.Touched.{once-first, rest-next}
use Rattle.cache_core.proofs.interior.Interior.resume_all.Goals as goal

pub loop-number-init : goal.loop-number-init
loop-number-init g c = record {
  ran = parts-none g.S.Store.view g.T.Tape.view c.args.now c.args.self.now.base c.args.self.now.connections c.requires.amid.in_time.0;
  amid = λ lines amid. amid;
  inside = c.requires.inside;
  count = refl;
  goes = taken-same c.args.self.now.base.loads;
}

pub overflow_sub-index : goal.overflow_sub-index
overflow_sub-index g c =
    let first = next-there c.loop-number.self.connections c.args.waiting.now c.loop-number.number-index c.loop-number-test.true c.loop-number.invariant.inside in
    first.0

pub resume_at-requires : goal.resume_at-requires
resume_at-requires g c =
    let old = c.args.self.now in
    let mid = c.loop-number.self in
    let ns = c.args.waiting.now in
    let at = c.loop-number.number-index in
    let lt = c.loop-number-test.true in
    let i = c.loop-number.invariant in
    let first = next-there mid.connections ns at lt i.inside in
    record {
      amid = amid-next g.S.Store.view g.T.Tape.view c.args.now mid.base mid.connections ns at lt (amid-all g.S.Store.view g.T.Tape.view c.args.now old.base mid.base old.connections mid.connections (length ns) (length (drop at ns)) i.amid c.requires.amid);
      inside = first-there mid.connections (get_or ns at 0) first.0 first.1;
    }

pub loop-number-preserved : goal.loop-number-preserved
loop-number-preserved g c =
    let ns = c.args.waiting.now in
    let at = c.loop-number.number-index in
    let n = get_or ns at 0 in
    let rest = drop (at + 1) ns in
    let next = rest-next ns at c.loop-number-test.true in
    let i = c.loop-number.invariant in
    let config = (g.S.Store.view c.args.self.now.base.store).frame.config in
    let mid = c.loop-number.self.connections in
    let there = subst (AreThere mid) next i.inside in
    let first = there n (once-first n rest) in
    let number : n - 1 + 1 ≡ n = there-number n first.0 in
    let one = subst (λ (k : ℕ). Parts g.S.Store.view g.T.Tape.view c.args.now c.loop-number.self.base c.resume_at.new.self.base mid c.resume_at.new.self.connections (RunLines k ∷ [])) number c.resume_at.ensures.ran in
    record {
      ran = subst (λ (ts : List Task). Parts g.S.Store.view g.T.Tape.view c.args.now c.args.self.now.base c.resume_at.new.self.base c.args.self.now.connections c.resume_at.new.self.connections ts) (sym (mapped-more RunLines ns at c.loop-number-test.true))
          (parts-on g.S.Store.view g.T.Tape.view c.args.now c.args.self.now.base c.loop-number.self.base c.resume_at.new.self.base c.args.self.now.connections mid c.resume_at.new.self.connections (map RunLines (take at ns)) (RunLines n ∷ []) i.ran one);
      amid = λ lines amid.
          let h = i.amid lines amid in
          c.resume_at.ensures.amid (length rest + lines) (subst (λ k. IsAmid g.S.Store.view g.T.Tape.view c.args.now c.loop-number.self.base mid k) (let e = ap length next in omega (arith, e)) h);
      inside = left-there mid c.resume_at.new.self.connections n rest there c.resume_at.ensures.others.count;
      count = c.resume_at.ensures.others.count ∙ i.count;
      goes = taken-on i.goes c.resume_at.ensures.goes;
    }

pub returns-clause-ran : goal.returns-clause-ran
returns-clause-ran g c =
    let at = c.loop-number.number-index in
    let ns = c.args.waiting.now in
    subst (λ (xs : List ℕ). Parts g.S.Store.view g.T.Tape.view c.args.now c.args.self.now.base c.loop-number.self.base c.args.self.now.connections c.loop-number.self.connections (map RunLines xs)) (take_all at ns c.loop-number-test.false) c.loop-number.invariant.ran
