use Rattle.std.proofs.Common.{◌≡◌, ◌∙◌, refl, ap, sym, subst, arith, ◌++◌, [], ◌∷◌}
use Rattle.front_reference.specs.Wholes.{DrawAll, DrawsInVain}
use Rattle.front_parts.proofs.wholes.Drawn.{after-one, draws-next, no_length, no_more, vain-later}
use Rattle.front_parts.proofs.wholes.covering.draw_all.Goals as goal

pub loop-part-preserved : goal.loop-part-preserved
loop-part-preserved g c =
    let a = g.G.Rng.stream c.loop-part.generator in
    let b = g.G.Rng.stream c.draw_predicate_id.new.generator in
    let first = g.G.Rng.stream c.args.generator.now in
    let s = c.in-Some.part.now in
    let ss = c.in-Some.others.now in
    let rest : c.loop-part.rest.now ≡ s ∷ ss = c.in-Some.ensures.cases.0 in
    let room = c.loop-part.invariant.room in
    let shorter = c.in-Some.ensures.cases.1 in
    let len = c.push_reserved.ensures.len in
    let capacity = c.push_reserved.ensures.capacity in
    record {
      draws = λ new more h.
          subst (λ xs. DrawAll c.args.parts.now first new xs) (sym (ap (λ xs. xs ++ more) c.push_reserved.ensures.items ∙ after-one c.loop-part.ids.items c.in-Ok.id more))
          (c.loop-part.invariant.draws new (c.in-Ok.id ∷ more) (subst (λ xs. DrawAll xs a new (c.in-Ok.id ∷ more)) (sym rest) (draws-next s ss a b new c.in-Ok.id more c.in-Ok.ensures.drawn h)));
      in_vain = λ new h. c.loop-part.invariant.in_vain new (subst (λ xs. DrawsInVain xs a new) (sym rest) (vain-later s ss a b new c.in-Ok.id c.in-Ok.ensures.drawn h));
      room = omega arith;
    }

pub returns-clause-draws : goal.returns-clause-draws
returns-clause-draws g c =
    let b = g.G.Rng.stream c.loop-part.generator in
    let first = g.G.Rng.stream c.args.generator.now in
    let none = no_length c.loop-part.rest.now c.in_default.ensures.cases in
    subst (λ xs. DrawAll c.args.parts.now first b xs) (no_more c.loop-part.ids.items)
    (c.loop-part.invariant.draws b [] (subst (λ xs. DrawAll xs b b []) (sym none) (refl, refl)))
