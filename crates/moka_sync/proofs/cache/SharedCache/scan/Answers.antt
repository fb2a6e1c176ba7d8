use Rattle.std.proofs.Common.{Some, ap, subst}
use Rattle.front_parts.specs.Places.Calls.{ways_by}
use Rattle.moka_sync.proofs.Holding.{if-shown}
use Rattle.sync_desk.specs.Drawing.{SeesAsDrawn}
use Rattle.moka_sync.proofs.cache.SharedCache.scan.Goals as goal

pub returns-clause-shown : goal.returns-clause-shown
returns-clause-shown g c =
    let d = c.deref_mut-desk.result.now in
    let e = c.scan.new.self in
    let ways = ways_by g.R.Rules g.K.PartialEq.eq g.K.Hash.hash_input g.S.BuildHasher g.S.Hasher.Hasher in
    if-shown _ _ c.scan.result (λ v sees. record {
      old = record { number = d.number; state = d.state; writes = d.writes.steps; moment = d.moment; stream = g.E.Generator.Rng.stream d.generator };
      new = record { number = e.number; state = e.state; writes = e.writes.steps; moment = e.moment; stream = g.E.Generator.Rng.stream e.generator };
      numbered = let a = ap (λ desk. desk.number) c.deref_mut-desk.ensures.value in cc (a, c.lock_of-guard.ensures, c.deref.ensures, c.deref-2.ensures);
      fact = record {
        seen = subst (λ k. SeesAsDrawn ways d.moment k d.state (Some v)) c.deref-3.ensures sees;
        same = ap (λ desk. record { number = desk.number; state = desk.state; writes = desk.writes.steps; moment = desk.moment; stream = g.E.Generator.Rng.stream desk.generator }) c.scan.ensures.same;
      };
    }) c.scan.ensures.found
