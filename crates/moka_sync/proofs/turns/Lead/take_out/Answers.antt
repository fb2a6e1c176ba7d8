use Rattle.std.proofs.Common.{◌∙◌, ap}
use Rattle.moka_sync.proofs.Holding.{if-ok}
use Rattle.moka_sync.proofs.turns.Lead.take_out.Goals as goal

pub returns-clause-did : goal.returns-clause-did
returns-clause-did g c =
    let d = c.deref_mut-desk.result.now in
    let e = c.take_out-removed.new.self in
    if-ok c.take_out-removed.result (λ removed h. record {
      old = record { number = d.number; state = d.state; writes = d.writes.steps; moment = d.moment; stream = g.E.Generator.Rng.stream d.generator };
      new = record { number = e.number; state = e.state; writes = e.writes.steps; moment = e.moment; stream = g.E.Generator.Rng.stream e.generator };
      numbered = ap (λ desk. desk.number) c.deref_mut-desk.ensures.value ∙ c.lock-guard.ensures;
      fact = record { takes_out = h; rest = ap (λ desk. record { number = desk.number; state = desk.state; writes = desk.writes.steps; moment = desk.moment; stream = g.E.Generator.Rng.stream desk.generator }) c.take_out-removed.ensures.rest };
    }) c.take_out-removed.ensures.takes_out
