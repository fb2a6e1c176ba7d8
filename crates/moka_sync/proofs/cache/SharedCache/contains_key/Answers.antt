use Rattle.std.proofs.Common.{ap}
use Rattle.moka_sync.proofs.cache.SharedCache.contains_key.Goals as goal

pub returns : goal.returns
returns g c =
    let d = c.deref_mut-desk.result.now in
    let e = c.contains_key.new.self in
    record {
      old = record { number = d.number; state = d.state; writes = d.writes.steps; moment = d.moment; stream = g.E.Generator.Rng.stream d.generator };
      new = record { number = e.number; state = e.state; writes = e.writes.steps; moment = e.moment; stream = g.E.Generator.Rng.stream e.generator };
      numbered = let a = ap (λ desk. desk.number) c.deref_mut-desk.ensures.value in cc (a, c.lock_of-guard.ensures, c.deref.ensures);
      fact = record { seen = c.contains_key.ensures.found.0; found = c.contains_key.ensures.found.1; told = c.contains_key.ensures.found.2; same = ap (λ desk. record { number = desk.number; state = desk.state; writes = desk.writes.steps; moment = desk.moment; stream = g.E.Generator.Rng.stream desk.generator }) c.contains_key.ensures.same };
    }
