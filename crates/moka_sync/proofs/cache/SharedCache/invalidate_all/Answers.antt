use Rattle.std.proofs.Common.{◌≡◌, ◌∙◌, ap, arith, subst}
use Rattle.moka_sync.proofs.Holding.{done-more}
use Rattle.std.specs.Arc.{arc_value}
use Rattle.moka_sync.specs.Holding.{DidClear, DoneUnderEach}
use Rattle.moka_sync.specs.Spreading.{desk_count}
use Rattle.moka_sync.proofs.cache.SharedCache.invalidate_all.Goals as goal

pub loop-number-init : goal.loop-number-init
loop-number-init g c = λ number low. absurd (omega arith)

pub loop-number-preserved : goal.loop-number-preserved
loop-number-preserved g c =
    let d = c.deref_mut-desk.result.now in
    let e = c.invalidate_all.new.self in
    done-more c.loop-number.number DidClear c.loop-number.invariant (record {
      old = record { number = d.number; state = d.state; writes = d.writes.steps; moment = d.moment; stream = g.E.Generator.Rng.stream d.generator };
      new = record { number = e.number; state = e.state; writes = e.writes.steps; moment = e.moment; stream = g.E.Generator.Rng.stream e.generator };
      numbered = ap (λ desk. desk.number) c.deref_mut-desk.ensures.value ∙ c.lock-guard.ensures ∙ c.get.ensures.number;
      fact = record { clears = c.in_ok-invalidate_all.ensures.clears; rest = ap (λ desk. record { number = desk.number; state = desk.state; writes = desk.writes.steps; moment = desk.moment; stream = g.E.Generator.Rng.stream desk.generator }) c.invalidate_all.ensures.rest };
    })

pub returns-clause-clears : goal.returns-clause-clears
returns-clause-clears g c =
    let inner = arc_value c.args.self.now.inner in
    let all : c.loop-number.number ≡ c.len-number-end.result = omega (arith, c.loop-number-test.false, c.loop-number.auto.number-end) in
    let many : c.len-number-end.result ≡ desk_count inner.spread = cc (c.len-number-end.ensures, c.deref-inner.ensures, inner.counted) in
    subst (λ n. DoneUnderEach n DidClear) (all ∙ many) c.loop-number.invariant
