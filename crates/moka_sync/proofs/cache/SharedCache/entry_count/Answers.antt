use Rattle.std.proofs.Common.{◌≡◌, ◌∙◌, ap, arith, refl, subst}
use Rattle.std.specs.Arc.{arc_value}
use Rattle.front_reference.specs.Wholes.{total_number}
use Rattle.moka_sync.proofs.Telling.{sums-more, sums-none}
use Rattle.moka_sync.specs.Telling.{SumsUnderEach}
use Rattle.moka_sync.specs.Spreading.{desk_count}
use Rattle.moka_sync.proofs.cache.SharedCache.entry_count.Goals as goal

pub loop-number-init : goal.loop-number-init
loop-number-init g c = sums-none total_number

pub loop-number-preserved : goal.loop-number-preserved
loop-number-preserved g c =
    let d = c.deref-desk.result.now in
    sums-more c.loop-number.number total_number c.loop-number.sum c.entry_count.result c.saturating_add-sum.result c.loop-number.invariant (record {
      old = record { number = d.number; state = d.state; writes = d.writes.steps; moment = d.moment; stream = g.E.Generator.Rng.stream d.generator };
      new = record { number = d.number; state = d.state; writes = d.writes.steps; moment = d.moment; stream = g.E.Generator.Rng.stream d.generator };
      numbered = ap (λ desk. desk.number) c.deref-desk.ensures ∙ c.lock_untimed-guard.ensures ∙ c.get.ensures.number;
      fact = record { counted = c.entry_count.ensures; same = refl };
    }) c.saturating_add-sum.ensures

pub returns : goal.returns
returns g c =
    let inner = arc_value c.args.self.now.inner in
    let all : c.loop-number.number ≡ c.len-number-end.result = omega (arith, c.loop-number-test.false, c.loop-number.auto.number-end) in
    let many : c.len-number-end.result ≡ desk_count inner.spread = cc (c.len-number-end.ensures, c.deref-inner.ensures, inner.counted) in
    subst (λ n. SumsUnderEach n total_number c.loop-number.sum) (all ∙ many) c.loop-number.invariant
