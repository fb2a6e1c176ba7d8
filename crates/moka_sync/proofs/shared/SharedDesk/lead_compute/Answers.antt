use Rattle.std.proofs.Common.{◌∙◌, ap, subst}
use Rattle.front_parts.specs.Places.Calls.{ways_by}
use Rattle.sync_desk.specs.Drawing.{ComputesAsDrawn}
use Rattle.moka_sync.proofs.shared.SharedDesk.lead_compute.Goals as goal

pub returns-in-Lead-clause-leads : goal.returns-in-Lead-clause-leads
returns-in-Lead-clause-leads g c =
    let d = c.deref_mut-desk.result.now in
    let e = c.begin_compute.new.self in
    let ways = ways_by g.R.Rules g.K.PartialEq.eq g.K.Hash.hash_input g.S.BuildHasher g.S.Hasher.Hasher in
    record {
      old = record { number = d.number; state = d.state; writes = d.writes.steps; moment = d.moment; stream = g.E.Generator.Rng.stream d.generator };
      new = record { number = e.number; state = e.state; writes = e.writes.steps; moment = e.moment; stream = g.E.Generator.Rng.stream e.generator };
      numbered = ap (λ desk. desk.number) c.deref_mut-desk.ensures.value ∙ c.lock-guard.ensures;
      fact = record {
        computes = subst (λ start. ComputesAsDrawn ways d.moment c.args.key.now d.state e.state start) c.in-Lead.is c.in_ok-number.ensures.begins;
        rest = ap (λ desk. record { number = desk.number; state = desk.state; writes = desk.writes.steps; moment = desk.moment; stream = g.E.Generator.Rng.stream desk.generator }) c.begin_compute.ensures.rest;
      };
    }
