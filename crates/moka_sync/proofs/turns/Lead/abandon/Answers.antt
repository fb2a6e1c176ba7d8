use Rattle.std.proofs.Common.{◌∙◌, ap}
use Rattle.moka_sync.proofs.turns.Lead.abandon.Goals as goal

pub returns : goal.returns
returns g c =
    let d = c.deref_mut-desk.result.now in
    let e = c.abandon.new.self in
    record {
      old = record { number = d.number; state = d.state; writes = d.writes.steps; moment = d.moment; stream = g.E.Generator.Rng.stream d.generator };
      new = record { number = e.number; state = e.state; writes = e.writes.steps; moment = e.moment; stream = g.E.Generator.Rng.stream e.generator };
      numbered = ap (λ desk. desk.number) c.deref_mut-desk.ensures.value ∙ c.lock-guard.ensures;
      fact = record { gives_up = c.abandon.ensures.gives_up; rest = ap (λ desk. record { number = desk.number; state = desk.state; writes = desk.writes.steps; moment = desk.moment; stream = g.E.Generator.Rng.stream desk.generator }) c.abandon.ensures.rest };
    }
