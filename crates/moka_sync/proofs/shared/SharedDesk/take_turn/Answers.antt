use Rattle.std.proofs.Common.{◌≡◌, ◌∙◌, ap, inl, inr, refl, rules, subst}
use Rattle.front_parts.specs.Places.Calls.{ways_by}
use Rattle.moka_sync.proofs.Resting.{found-started, started-more}
use Rattle.moka_sync.specs.Making.{HasReceived}
use Rattle.moka_sync.proofs.shared.SharedDesk.take_turn.Goals as goal

pub returns-in-Found-clause-begun : goal.returns-in-Found-clause-begun
returns-in-Found-clause-begun g c =
    let d = c.deref_mut-desk.result.now in
    let e = c.begin.new.self in
    let ways = ways_by g.R.Rules g.K.PartialEq.eq g.K.Hash.hash_input g.S.BuildHasher g.S.Hasher.Hasher in
    let key = g.A.Names.named_key c.args.asked in (
      refl,
      inl (record {
        old = record { number = d.number; state = d.state; writes = d.writes.steps; moment = d.moment; stream = g.E.Generator.Rng.stream d.generator };
        new = record { number = e.number; state = e.state; writes = e.writes.steps; moment = e.moment; stream = g.E.Generator.Rng.stream e.generator };
        numbered = ap (λ desk. desk.number) c.deref_mut-desk.ensures.value ∙ c.requires.own;
        fact = record { found = found-started ways d.moment key d.state e.state _ c.args.kind _ c.in-Found.value c.in-Found.is c.in_ok-value.ensures.begins; err = tt; rest = ap (λ desk. record { number = desk.number; state = desk.state; writes = desk.writes.steps; moment = desk.moment; stream = g.E.Generator.Rng.stream desk.generator }) c.begin.ensures.rest };
      }),
    )

pub returns-in-Lead-clause-begun : goal.returns-in-Lead-clause-begun
returns-in-Lead-clause-begun g c =
    let d = c.deref_mut-desk.result.now in
    let e = c.begin.new.self in
    let ways = ways_by g.R.Rules g.K.PartialEq.eq g.K.Hash.hash_input g.S.BuildHasher g.S.Hasher.Hasher in
    let key = g.A.Names.named_key c.args.asked in
    record {
      old = record { number = d.number; state = d.state; writes = d.writes.steps; moment = d.moment; stream = g.E.Generator.Rng.stream d.generator };
      new = record { number = e.number; state = e.state; writes = e.writes.steps; moment = e.moment; stream = g.E.Generator.Rng.stream e.generator };
      numbered = ap (λ desk. desk.number) c.deref_mut-desk.ensures.value ∙ c.requires.own;
      fact = record { begins = started-more ways d.moment key d.state e.state _ (λ v i. i ≡ c.args.is_passed_over) c.args.kind _ _ c.in-Lead.is (λ v i said. search rules) c.in_ok-value.ensures.begins; rest = ap (λ desk. record { number = desk.number; state = desk.state; writes = desk.writes.steps; moment = desk.moment; stream = g.E.Generator.Rng.stream desk.generator }) c.begin.ensures.rest };
    }

pub returns-in-Some-clause-begun : goal.returns-in-Some-clause-begun
returns-in-Some-clause-begun g c =
    let d = c.deref_mut-desk.result.now in
    let e = c.begin.new.self in
    let ways = ways_by g.R.Rules g.K.PartialEq.eq g.K.Hash.hash_input g.S.BuildHasher g.S.Hasher.Hasher in
    let key = g.A.Names.named_key c.args.asked in
    let told = subst (λ got. HasReceived c.args.self.now.number c.args.kind c.in-Wait.number got) c.in-Some.is c.in_ok-made-in-Wait.ensures.told in (
      told.0,
      inr (record {
        number = c.in-Wait.number;
        waits = record {
          old = record { number = d.number; state = d.state; writes = d.writes.steps; moment = d.moment; stream = g.E.Generator.Rng.stream d.generator };
          new = record { number = e.number; state = e.state; writes = e.writes.steps; moment = e.moment; stream = g.E.Generator.Rng.stream e.generator };
          numbered = ap (λ desk. desk.number) c.deref_mut-desk.ensures.value ∙ c.requires.own;
          fact = record { begins = started-more ways d.moment key d.state e.state _ (λ v i. i ≡ c.args.is_passed_over) c.args.kind _ _ c.in-Wait.is (λ v i said. search rules) c.in_ok-value.ensures.begins; rest = ap (λ desk. record { number = desk.number; state = desk.state; writes = desk.writes.steps; moment = desk.moment; stream = g.E.Generator.Rng.stream desk.generator }) c.begin.ensures.rest };
        };
        told = told.1;
      }),
    )
