use Rattle.std.proofs.Common.{◌≡◌, refl, ap, length, arith}
use Rattle.engine_cells.proofs.keys.Around.{reaches}
use Rattle.engine_cells.proofs.keys.Tables.{read}
use Rattle.engine_cells.proofs.keys.Putting.{first-vacant, never-full}
use Rattle.engine_cells.proofs.keys.vacant_for.Goals as goal

pub returns-then-index : goal.returns-then-index
returns-then-index c =
    let xs = c.args.slots.now.items in
    let many : c.len-many.result ≡ length xs = omega (arith, c.len-many.ensures, c.args.slots.now.ok.0) in
    let at = reaches c.len-many.result (length xs) c.home_of-home.result c.loop-steps._steps c.loop-steps.at many (omega (arith, c.home_of-home.ensures.within)) (omega arith) c.loop-steps.invariant.at in
    let slot = read xs c.loop-steps.at (length xs) c.index.result.now refl at.1 c.index.ensures in
    first-vacant xs c.args.tag c.len-many.result c.home_of-home.result c.loop-steps._steps c.loop-steps.at many c.home_of-home.ensures.value (omega arith) c.loop-steps.invariant.at c.loop-steps.invariant.seen (omega (arith, ap (λ s. s.place) slot))

pub unreachable-requires : goal.unreachable-requires
unreachable-requires c =
    let many : c.len-many.result ≡ length c.args.slots.now.items = omega (arith, c.len-many.ensures, c.args.slots.now.ok.0) in
    never-full c.args.slots.now.items c.args.tag c.len-many.result c.home_of-home.result c.loop-steps._steps many c.home_of-home.ensures.value c.requires (omega arith) c.loop-steps.invariant.seen
