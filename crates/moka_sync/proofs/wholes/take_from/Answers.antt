use Rattle.std.proofs.Common.{◌∙◌, ap, refl, sym}
use Rattle.moka_sync.proofs.Telling.{adds-none, adds-one}
use Rattle.moka_sync.proofs.wholes.take_from.Goals as goal

pub loop-desk-init : goal.loop-desk-init
loop-desk-init g c = adds-none c.args.notices.now.items

pub loop-desk-preserved : goal.loop-desk-preserved
loop-desk-preserved g c =
    let d = c.loop-desk.desk in
    let e = c.next_notice.new.self in
    adds-one _ _ _ c.in-Some.notice c.loop-desk.invariant (
      d.number,
      record {
        old = record { number = d.number; state = d.state; writes = d.writes.steps; moment = d.moment; stream = g.G.Rng.stream d.generator };
        new = record { number = e.number; state = e.state; writes = e.writes.steps; moment = e.moment; stream = g.G.Rng.stream e.generator };
        numbered = refl;
        fact = record { told = sym c.in-Some.is ∙ c.next_notice.ensures.notice; taken = ap (λ desk. record { number = desk.number; state = desk.state; writes = desk.writes.steps; moment = desk.moment; stream = g.G.Rng.stream desk.generator }) c.next_notice.ensures.taken };
      },
    ) c.push_reserved.ensures.items
