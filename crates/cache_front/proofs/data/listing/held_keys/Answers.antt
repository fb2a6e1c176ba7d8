use Rattle.std.proofs.Common.{arith}
use Rattle.cache_front.proofs.data.Live.{gathers_more}
use Rattle.cache_front.proofs.data.listing.held_keys.Goals as goal

pub loop-place-preserved : goal.loop-place-preserved
loop-place-preserved g c =
    let inside = c.loop-place-test.true in
    let parts = c.num_cht_segments-place-end.ensures in
    gathers_more c.args.front.now.parts c.loop-place.place c.loop-place.keys.items c.add_held.new.keys.items (omega (arith, inside, parts)) c.loop-place.invariant c.in_ok-add_held.ensures
