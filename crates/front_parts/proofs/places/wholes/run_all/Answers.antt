use Rattle.std.proofs.Common.{◌∙◌, sym, arith}
use Rattle.front_parts.proofs.places.Lists.{there}
use Rattle.front_parts.proofs.places.Eaches.{so_far_next, so_far_end}
use Rattle.front_parts.proofs.places.wholes.run_all.Goals as goal

pub run_pending_tasks-requires : goal.run_pending_tasks-requires
run_pending_tasks-requires g c =
    let low = c.loop-place-test.true in
    let e = c.loop-place.invariant.count in
    let n = c.loop-place.invariant.far.count in
    record {
      sent = c.requires c.loop-place.place c.index_mut-part.result.now
          (sym (c.loop-place.invariant.far.rest c.loop-place.place (omega arith)) ∙ there c.loop-place.parts.items c.loop-place.place c.index_mut-part.result.now (omega arith) c.index_mut-part.ensures.value);
    }

pub loop-place-preserved : goal.loop-place-preserved
loop-place-preserved g c =
    let low = c.loop-place-test.true in
    let e = c.loop-place.invariant.count in
    record {
      far = so_far_next _ c.args.parts.now.items c.loop-place.parts.items c.loop-place.place c.index_mut-part.result.now c.run_pending_tasks.new.part c.loop-place.invariant.far (omega arith) c.index_mut-part.ensures.value c.run_pending_tasks.ensures;
      count = e;
    }

pub returns : goal.returns
returns g c = let past = c.loop-place-test.false in let e = c.loop-place.invariant.count in so_far_end _ c.args.parts.now.items c.loop-place.parts.items c.loop-place.place c.loop-place.invariant.far (omega arith)
