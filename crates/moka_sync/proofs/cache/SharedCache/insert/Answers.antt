use Rattle.std.proofs.Common.{◌∙◌, ap}
use Rattle.moka_sync.proofs.cache.SharedCache.insert.Goals as goal

pub returns-clause-did : goal.returns-clause-did
returns-clause-did g c =
    let d = c.deref_mut-desk.result.now in
    let e = c.insert.new.self in
    record {
      old = record { number = d.number; state = d.state; writes = d.writes.steps; moment = d.moment; stream = g.E.Generator.Rng.stream d.generator };
      new = record { number = e.number; state = e.state; writes = e.writes.steps; moment = e.moment; stream = g.E.Generator.Rng.stream e.generator };
      numbered = let a = ap (λ desk. desk.number) c.deref_mut-desk.ensures.value in cc (a, c.lock_of-guard.ensures, c.deref.ensures);
      fact = record {
        inserts = c.insert.ensures.inserts;
        err = c.insert.ensures.err;
        rest = ap (λ desk. record { number = desk.number; state = desk.state; writes = desk.writes.steps; moment = desk.moment; stream = g.E.Generator.Rng.stream desk.generator }) c.insert.ensures.rest ∙ ap (λ steps. record { number = d.number; state = e.state; writes = steps; moment = d.moment; stream = g.E.Generator.Rng.stream d.generator }) c.insert.ensures.writes;
      };
    }
