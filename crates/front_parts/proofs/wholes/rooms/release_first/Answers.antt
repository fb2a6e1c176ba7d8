use Rattle.std.proofs.Common.{◌≡◌, ◌∙◌, ap, arith}
use Rattle.engine_reference.specs.Calls.{without_room}
use Rattle.front_parts.proofs.wholes.Firsts.{first-step, first-there}
use Rattle.front_parts.specs.Wholes.Firsts.{changed_first}
use Rattle.front_parts.proofs.wholes.rooms.release_first.Goals as goal

pub release_room-requires : goal.release_room-requires
release_room-requires g c =
    let low = c.loop-place-test.true in
    let within = c.requires.within in
    c.requires.room c.loop-place.place c.index_mut-part.result.now low
    (first-there (λ k. without_room) c.loop-place.place c.args.parts.now.items c.loop-place.parts.items c.index_mut-part.result.now c.loop-place.invariant (omega arith) c.index_mut-part.ensures.value)

pub loop-place-preserved : goal.loop-place-preserved
loop-place-preserved g c =
    let low = c.loop-place-test.true in
    let within = c.requires.within in
    first-step (λ k. without_room) c.loop-place.place c.args.parts.now.items c.loop-place.parts.items c.index_mut-part.result.now c.release_room.new.self c.loop-place.invariant (omega arith) c.index_mut-part.ensures.value c.release_room.ensures

pub returns : goal.returns
returns g c =
    let past = c.loop-place-test.false in
    let end = c.loop-place.auto.place-end in
    let done : c.loop-place.place ≡ c.args.count = omega arith in
    c.loop-place.invariant ∙ ap (λ n. changed_first (λ k. without_room) n c.args.parts.now.items) done
