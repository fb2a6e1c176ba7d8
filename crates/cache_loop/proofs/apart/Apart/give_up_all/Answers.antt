use Rattle.std.proofs.Common.{length, refl, ap, subst, sym, ◌∙◌, arith}
use Rattle.std.proofs.lemmas.List.{nil_from_length}
use Rattle.std.specs.Vec.Iter.{into_iter_items}
use Rattle.cache_run.specs.Driver.Exchanges.{Outs}
use Rattle.cache_loop.specs.Loads.{GivesUpEach, numbers_out}
use Rattle.cache_loop.proofs.apart.Apart.give_up_all.Goals as goal

pub loop-load-init : goal.loop-load-init
loop-load-init g c =
    let items = c.into_iter-load-iterator.ensures.into_iter_gives in
    record {
      len = items.1 ∙ c.args.loads.ok.0 ∙ sym (ap (λ (outs : Outs). length outs) items.0);
      each = λ q rest. subst (λ (outs : Outs). GivesUpEach g.H.Host.came g.H.Host.rests c.args.conn c.args.place.now (numbers_out outs) q) items.0 rest;
      loads = refl;
    }

pub loop-load-preserved : goal.loop-load-preserved
loop-load-preserved g c =
    let l = c.loop-load in
    let steps = c.in-Some.ensures.steps in
    record {
      len = let all = ap (λ (outs : Outs). length outs) steps.0 in omega (arith, all, steps.1, l.invariant.len);
      each = λ q rest. l.invariant.each q
          (subst (λ (outs : Outs). GivesUpEach g.H.Host.came g.H.Host.rests c.args.conn l.place (numbers_out outs) q) (sym steps.0) (c.give_up.new.place, c.give_up.ensures.told, rest));
      loads = c.give_up.ensures.loads ∙ l.invariant.loads;
    }

pub returns-clause-each : goal.returns-clause-each
returns-clause-each g c =
    let l = c.loop-load in
    let none = nil_from_length (into_iter_items l.load-iterator) (sym l.invariant.len ∙ c.in-None.ensures.steps.0) in
    l.invariant.each l.place (subst (λ (outs : Outs). GivesUpEach g.H.Host.came g.H.Host.rests c.args.conn l.place (numbers_out outs) l.place) (sym none) refl)

pub returns-clause-loads : goal.returns-clause-loads
returns-clause-loads g c = c.loop-load.invariant.loads
