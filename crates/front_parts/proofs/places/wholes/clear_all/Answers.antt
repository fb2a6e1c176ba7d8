use Rattle.std.proofs.Common.{arith}
use Rattle.front_parts.proofs.places.Eaches.{so_far_next, so_far_end}
use Rattle.front_parts.proofs.places.wholes.clear_all.Goals as goal

pub loop-place-preserved : goal.loop-place-preserved
loop-place-preserved g c =
    let low = c.loop-place-test.true in
    let e = c.loop-place.invariant.count in
    record {
      far = so_far_next _ c.args.parts.now.items c.loop-place.parts.items c.loop-place.place c.index_mut-part.result.now c.invalidate_all.new.self c.loop-place.invariant.far (omega arith) c.index_mut-part.ensures.value c.invalidate_all.ensures;
      count = e;
    }

pub returns : goal.returns
returns g c = let past = c.loop-place-test.false in let e = c.loop-place.invariant.count in so_far_end _ c.args.parts.now.items c.loop-place.parts.items c.loop-place.place c.loop-place.invariant.far (omega arith)
