use Rattle.std.proofs.Common.{ap}
use Rattle.moka_sync.proofs.cache.SharedCache.invalidate_by_name.Goals as goal

pub returns-clause-did : goal.returns-clause-did
returns-clause-did g c =
    let d = c.deref_mut-desk.result.now in
    let e = c.invalidate_by_name.new.self in
    record {
      old = record { number = d.number; state = d.state; writes = d.writes.steps; moment = d.moment; stream = g.E.Generator.Rng.stream d.generator };
      new = record { number = e.number; state = e.state; writes = e.writes.steps; moment = e.moment; stream = g.E.Generator.Rng.stream e.generator };
      numbered = let a = ap (λ desk. desk.number) c.deref_mut-desk.ensures.value in cc (a, c.lock_named-guard.ensures, c.deref.ensures);
      fact = record { removes = c.invalidate_by_name.ensures.removes; err = c.invalidate_by_name.ensures.err; rest = ap (λ desk. record { number = desk.number; state = desk.state; writes = desk.writes.steps; moment = desk.moment; stream = g.E.Generator.Rng.stream desk.generator }) c.invalidate_by_name.ensures.rest };
    }
