use Rattle.std.proofs.Common.{◌≡◌, refl, ap, ◌∙◌, length, false, arith}
use Rattle.engine_cells.specs.Keys.Slots.{home_of}
use Rattle.engine_cells.proofs.keys.Around.{home-none, on-none, reaches}
use Rattle.engine_cells.proofs.keys.Tables.{read}
use Rattle.engine_cells.proofs.keys.Putting.{before-vacant, before-end}
use Rattle.engine_cells.proofs.keys.find.Goals as goal

pub loop-steps-init : goal.loop-steps-init
loop-steps-init g c = record {
  at = on-none c.len-many.result c.home_of-home.result c.home_of-home.ensures.within (λ zero. c.home_of-home.ensures.value ∙ ap (λ n. home_of c.args.tag n) zero ∙ home-none c.args.tag);
  seen = λ t less. absurd (omega arith);
}

pub returns-then-slot-clause-none : goal.returns-then-slot-clause-none
returns-then-slot-clause-none g c =
    let xs = c.args.slots.now.items in
    let many : c.len-many.result ≡ length xs = omega (arith, c.len-many.ensures, c.args.slots.now.ok.0) in
    let at = reaches c.len-many.result (length xs) c.home_of-home.result c.loop-steps._steps c.loop-steps.at many (omega (arith, c.home_of-home.ensures.within)) (omega arith) c.loop-steps.invariant.at in
    let slot = read xs c.loop-steps.at (length xs) c.index-slot.result.now refl at.1 c.index-slot.ensures in
    before-vacant xs c.args.tag c.len-many.result c.home_of-home.result c.loop-steps._steps c.loop-steps.at many c.home_of-home.ensures.value (omega arith) c.loop-steps.invariant.at c.requires.stand (omega (arith, ap (λ s. s.place) slot))
    (λ p. goal.F-post g c.args.is_sought p false) (λ t less same. (c.loop-steps.invariant.seen t less).1 same)

pub returns-clause-none : goal.returns-clause-none
returns-clause-none g c =
    let xs = c.args.slots.now.items in
    let many : c.len-many.result ≡ length xs = omega (arith, c.len-many.ensures, c.args.slots.now.ok.0) in
    before-end xs c.args.tag c.len-many.result c.home_of-home.result c.loop-steps._steps many c.home_of-home.ensures.within (omega arith)
    (λ p. goal.F-post g c.args.is_sought p false) (λ t less same. (c.loop-steps.invariant.seen t less).1 same)
