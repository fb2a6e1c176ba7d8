use Rattle.std.proofs.Common.{◌≡◌, ◌∙◌, ◌<◌, rules, ap, sym, arith, length}
use Rattle.std.specs.Prelude.{slice_get, slice_set}
use Rattle.engine_reference.specs.Calls.{with_room, without_room}
use Rattle.front_parts.proofs.wholes.Firsts.{first-all, first-length, first-step, first-there, set_same, there, undone}
use Rattle.front_parts.proofs.wholes.Drawn.{has_room, room-caused, room_back}
use Rattle.front_parts.specs.Wholes.Firsts.{changed_first}
use Rattle.front_parts.proofs.wholes.rooms.reserve_all.Goals as goal

pub reserve_one-requires : goal.reserve_one-requires
reserve_one-requires g c =
    let low = c.loop-place-test.true in
    let count = c.loop-place.invariant.count in
    c.requires c.loop-place.place c.index_mut-part.result.now
    (first-there (λ k. with_room) c.loop-place.place c.args.parts.now.items c.loop-place.parts.items c.index_mut-part.result.now c.loop-place.invariant.far (omega arith) c.index_mut-part.ensures.value)

pub loop-place-preserved : goal.loop-place-preserved
loop-place-preserved g c =
    let low = c.loop-place-test.true in
    let count = c.loop-place.invariant.count in
    record {
      far = first-step (λ k. with_room) c.loop-place.place c.args.parts.now.items c.loop-place.parts.items c.index_mut-part.result.now c.reserve_one.new.part c.loop-place.invariant.far (omega arith) c.index_mut-part.ensures.value c.in-Ok.ensures.ok;
      count = count;
    }

pub release_first-requires : goal.release_first-requires
release_first-requires g c =
    let low = c.loop-place-test.true in
    let count = c.loop-place.invariant.count in
    let far = c.loop-place.invariant.far in
    let long = ap length far ∙ first-length (λ k. with_room) c.loop-place.place c.args.parts.now.items in
    let here = there c.loop-place.parts.items c.loop-place.place c.index_mut-part.result.now (omega arith) c.index_mut-part.ensures.value in
    let back = ap (λ x. slice_set c.loop-place.parts.items c.loop-place.place x) c.in-Err.ensures.err ∙ set_same c.loop-place.parts.items c.loop-place.place c.index_mut-part.result.now here ∙ far in
    let same = ap length back ∙ first-length (λ k. with_room) c.loop-place.place c.args.parts.now.items in
    record {
      within = omega arith;
      room = λ k s less at. first-all with_room (λ x. 0 < x.reserved) has_room c.loop-place.place c.args.parts.now.items k s less (ap (λ l. slice_get l k) (sym back) ∙ at);
    }

pub returns-in-Err : goal.returns-in-Err
returns-in-Err g c =
    let low = c.loop-place-test.true in
    let count = c.loop-place.invariant.count in
    let far = c.loop-place.invariant.far in
    let long = ap length far ∙ first-length (λ k. with_room) c.loop-place.place c.args.parts.now.items in
    let here = there c.loop-place.parts.items c.loop-place.place c.index_mut-part.result.now (omega arith) c.index_mut-part.ensures.value in
    let back = ap (λ x. slice_set c.loop-place.parts.items c.loop-place.place x) c.in-Err.ensures.err ∙ set_same c.loop-place.parts.items c.loop-place.place c.index_mut-part.result.now here ∙ far in
    record {
      ok = search rules;
      err = c.release_first.ensures ∙ ap (λ l. changed_first (λ k. without_room) c.loop-place.place l) back ∙ undone with_room without_room room_back c.loop-place.place c.args.parts.now.items;
      cause = room-caused c.args.parts.now.items c.loop-place.place c.index_mut-part.result.now c.in-Err.refused
          (first-there (λ k. with_room) c.loop-place.place c.args.parts.now.items c.loop-place.parts.items c.index_mut-part.result.now far (omega arith) c.index_mut-part.ensures.value) c.in-Err.ensures.cause;
    }

pub returns : goal.returns
returns g c =
    let past = c.loop-place-test.false in
    let end = c.loop-place.auto.place-end in
    let count = c.loop-place.invariant.count in
    let done : c.loop-place.place ≡ length c.args.parts.now.items = omega arith in
    record {
      ok = c.loop-place.invariant.far ∙ ap (λ n. changed_first (λ k. with_room) n c.args.parts.now.items) done;
      err = search rules;
      cause = search rules;
    }
