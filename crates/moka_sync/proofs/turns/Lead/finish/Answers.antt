use Rattle.std.proofs.Common.{◌∙◌, ap}
use Rattle.moka_sync.proofs.Holding.{on-ok}
use Rattle.moka_sync.proofs.turns.Lead.finish.Goals as goal

pub returns-clause-did : goal.returns-clause-did
returns-clause-did g c =
    let d = c.deref_mut-desk.result.now in
    let e = c.finish-ended.new.self in
    on-ok c.finish-ended.result (λ h. record {
      old = record { number = d.number; state = d.state; writes = d.writes.steps; moment = d.moment; stream = g.E.Generator.Rng.stream d.generator };
      new = record { number = e.number; state = e.state; writes = e.writes.steps; moment = e.moment; stream = g.E.Generator.Rng.stream e.generator };
      numbered = ap (λ desk. desk.number) c.deref_mut-desk.ensures.value ∙ c.lock-guard.ensures;
      fact = record { known = h.0; ends = h.1; rest = ap (λ desk. record { number = desk.number; state = desk.state; writes = desk.writes.steps; moment = desk.moment; stream = g.E.Generator.Rng.stream desk.generator }) c.finish-ended.ensures.rest };
    }) c.finish-ended.ensures.ends
