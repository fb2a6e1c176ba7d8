use Rattle.std.proofs.Common.{◌≡◌, ap, subst, length, arith}
use Rattle.engine_cells.specs.Keys.Slots.{slot_at, steps_on}
use Rattle.engine_cells.proofs.keys.Tables.{taken-within}
use Rattle.engine_cells.proofs.keys.Putting.{all-seen}
use Rattle.engine_cells.proofs.keys.slot_of.Goals as goal

pub unreachable-requires : goal.unreachable-requires
unreachable-requires c =
    let xs = c.args.slots.now.items in
    let many : c.len-many.result ≡ length xs = omega (arith, c.len-many.ensures, c.args.slots.now.ok.0) in
    let there = c.requires.1 in
    let fits = c.requires.2 in
    let within = taken-within xs c.requires.0 (omega (arith, ap (λ s. s.place) there)) in
    all-seen (length xs) c.home_of-home.result (λ k. slot_at xs k ≡ record { tag = c.args.tag; place = c.args.place } → ⊥) (omega (arith, c.home_of-home.ensures.within))
    (λ t less. subst (λ n. slot_at xs (steps_on n c.home_of-home.result t) ≡ record { tag = c.args.tag; place = c.args.place } → ⊥) many (c.loop-steps.invariant.seen t (omega arith))) c.requires.0 within there
