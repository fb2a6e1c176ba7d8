use Rattle.std.proofs.Common.{◌≡◌, subst, sym, ap, ◌∙◌, arith}
use Rattle.engine_cells.specs.Keys.Spots.{Spots, IsUnder, tag_of}
use Rattle.engine_cells.specs.Keys.Slots.{slot_at, Has}
use Rattle.engine_cells.proofs.keys.Tables.{among-has}
use Rattle.engine_cells.proofs.keys.Putting.{take-leaves}
use Rattle.engine_cells.proofs.keys.Keys.take.Goals as goal

pub overflow_cast-place : goal.overflow_cast-place
overflow_cast-place c =
    let has = among-has c.self.inside.slots.items _ _ (subst (λ (v : Spots). IsUnder v c.args.hash c.args.place) (sym c.self.view_is) c.requires) in
    let fits = has.2 in
    omega arith

pub slot_of-at-requires : goal.slot_of-at-requires
slot_of-at-requires c = subst (λ t. Has c.self.inside.slots.items t c.args.place) (sym c.tag_of.ensures) (among-has c.self.inside.slots.items _ _ (subst (λ (v : Spots). IsUnder v c.args.hash c.args.place) (sym c.self.view_is) c.requires))

pub take_out-requires-clause-there : goal.take_out-requires-clause-there
take_out-requires-clause-there c =
    let has = among-has c.self.inside.slots.items _ _ (subst (λ (v : Spots). IsUnder v c.args.hash c.args.place) (sym c.self.view_is) c.requires) in
    let fits = has.2 in
    omega (arith, ap (λ s. s.place) c.slot_of-at.ensures)

pub returns : goal.returns
returns c =
    let has = among-has c.self.inside.slots.items _ _ (subst (λ (v : Spots). IsUnder v c.args.hash c.args.place) (sym c.self.view_is) c.requires) in
    let long = c.take_out.ensures.taken.long in
    let at : slot_at c.self.inside.slots.items c.slot_of-at.result ≡ record { tag = tag_of c.args.hash; place = c.args.place } = c.slot_of-at.ensures ∙ ap (λ t. record { tag = t; place = c.args.place }) c.tag_of.ensures in
    rw (← c.self.view_is) (take-leaves _ _ c.slot_of-at.result c.args.hash c.args.place c.self.invariant.found at has.2 c.take_out.ensures.taken _ _ (omega (arith, long)))
