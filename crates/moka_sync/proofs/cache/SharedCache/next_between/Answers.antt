use Rattle.std.proofs.Common.{◌≡◌, ◌∙◌, None, ap, arith, refl, sym}
use Rattle.moka_sync.proofs.Telling.{range-more, range-none}
use Rattle.moka_sync.specs.Holding.{DidTell}
use Rattle.moka_sync.proofs.cache.SharedCache.next_between.Goals as goal

pub loop-number-init : goal.loop-number-init
loop-number-init g c = range-none c.args.first c.args.first (DidTell None) (omega arith)

pub loop-number-preserved : goal.loop-number-preserved
loop-number-preserved g c =
    let d = c.deref_mut-desk.result.now in
    let e = c.next_notice.new.self in
    range-more c.args.first c.loop-number.number (DidTell None) c.loop-number.invariant (record {
      old = record { number = d.number; state = d.state; writes = d.writes.steps; moment = d.moment; stream = g.E.Generator.Rng.stream d.generator };
      new = record { number = e.number; state = e.state; writes = e.writes.steps; moment = e.moment; stream = g.E.Generator.Rng.stream e.generator };
      numbered = ap (λ desk. desk.number) c.deref_mut-desk.ensures.value ∙ c.lock_untimed-guard.ensures ∙ c.get.ensures.number;
      fact = record { told = sym c.in_default.is ∙ c.next_notice.ensures.notice; taken = ap (λ desk. record { number = desk.number; state = desk.state; writes = desk.writes.steps; moment = desk.moment; stream = g.E.Generator.Rng.stream desk.generator }) c.next_notice.ensures.taken };
    })

pub returns-in-Some-clause-told : goal.returns-in-Some-clause-told
returns-in-Some-clause-told g c =
    let d = c.deref_mut-desk.result.now in
    let e = c.next_notice.new.self in (
      d.number,
      record {
        old = record { number = d.number; state = d.state; writes = d.writes.steps; moment = d.moment; stream = g.E.Generator.Rng.stream d.generator };
        new = record { number = e.number; state = e.state; writes = e.writes.steps; moment = e.moment; stream = g.E.Generator.Rng.stream e.generator };
        numbered = refl;
        fact = record { told = sym c.in-Some.is ∙ c.next_notice.ensures.notice; taken = ap (λ desk. record { number = desk.number; state = desk.state; writes = desk.writes.steps; moment = desk.moment; stream = g.E.Generator.Rng.stream desk.generator }) c.next_notice.ensures.taken };
      },
    )

pub returns-clause-none : goal.returns-clause-none
returns-clause-none g c = λ is number above below. c.loop-number.invariant number above (omega (arith, below, c.loop-number-test.false, c.loop-number.auto.number-end))
