use Rattle.std.proofs.Common.{◌∙◌, ap}
use Rattle.moka_sync.proofs.Holding.{covered}
use Rattle.moka_sync.proofs.wholes.«SharedCache+K+V+S+R+E+Single».invalidate_entries_if.Goals as goal

pub returns-clause-did : goal.returns-clause-did
returns-clause-did g c =
    let d = c.deref_mut-desk.result.now in
    let e = c.invalidate_entries_if.new.self in
    record {
      old = record { number = d.number; state = d.state; writes = d.writes.steps; moment = d.moment; stream = g.E.Generator.Rng.stream d.generator };
      new = record { number = e.number; state = e.state; writes = e.writes.steps; moment = e.moment; stream = g.E.Generator.Rng.stream e.generator };
      numbered = ap (λ desk. desk.number) c.deref_mut-desk.ensures.value ∙ c.lock-guard.ensures ∙ c.first.ensures;
      fact = record {
        covers = covered c.invalidate_entries_if.result _ _ c.invalidate_entries_if.ensures.covers;
        err = c.invalidate_entries_if.ensures.err;
        rest = ap (λ desk. record { number = desk.number; state = desk.state; writes = desk.writes.steps; moment = desk.moment; stream = g.E.Generator.Rng.stream desk.generator }) c.invalidate_entries_if.ensures.rest;
      };
    }
