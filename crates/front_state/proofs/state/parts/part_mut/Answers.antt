use Rattle.std.proofs.Common.{◌≡◌, Some, ap, arith, refl, slice_get, subst}
use Rattle.std.specs.Vec.{with_item}
use Rattle.front_parts.proofs.places.Lists.{there}
use Rattle.front_state.proofs.state.parts.part_mut.Goals as goal

pub returns : goal.returns
returns g c =
    let low = c.place_of.ensures.within in
    let all = c.requires.1 in (
      (refl, λ w. ap (λ n. with_item c.args.parts.now n w) c.place_of.ensures.part),
      record {
        lends = tt;
        there = subst (λ n. slice_get c.args.parts.now.items n ≡ Some c.index_mut.result.now) c.place_of.ensures.part
            (there c.args.parts.now.items c.place_of.result c.index_mut.result.now (omega (arith, low, all)) c.index_mut.ensures.value);
      },
    )
