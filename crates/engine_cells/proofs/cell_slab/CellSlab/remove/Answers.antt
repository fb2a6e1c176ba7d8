use Rattle.std.proofs.Common.{◌≡◌, refl, sym, ◌∙◌, arith}
use Rattle.std.proofs.lemmas.List.{map-set}
use Rattle.slab.specs.Slab.{slab_len}
use Rattle.engine_cells.proofs.Drawers.{taken_within, no_more, not_vacant, value_at, vacated, vacated_len, updated}
use Rattle.engine_cells.proofs.cell_slab.CellSlab.remove.Goals as goal

pub invariant_of-self : goal.invariant_of-self
invariant_of-self g c = rw c.replace.ensures.after (vacated _ _ _ c.self.invariant c.args.key (rw (← c.self.view_is) at c.requires))

pub unreachable-requires : goal.unreachable-requires
unreachable-requires g c = not_vacant _ _ _ c.self.invariant c.args.key (rw (← c.self.view_is) at c.requires) c.index_mut.result.now _ c.index_mut.ensures.value (sym c.replace.ensures.value ∙ c.in-Vacant.is)

pub returns-clause-value : goal.returns-clause-value
returns-clause-value g c = rw (← c.self.view_is) (value_at _ _ _ c.self.invariant c.args.key (rw (← c.self.view_is) at c.requires) c.index_mut.result.now _ c.index_mut.ensures.value (sym c.replace.ensures.value ∙ c.in-Taken.is))

pub returns-clause-updates : goal.returns-clause-updates
returns-clause-updates g c = rw (← c.self.view_is, c.replace.ensures.after) (updated _ _ _ c.self.invariant _ _ c.args.key _ (taken_within _ _ _ c.self.invariant c.args.key (rw (← c.self.view_is) at c.requires)) refl refl)

pub returns-clause-len : goal.returns-clause-len
returns-clause-len g c = rw (← c.self.view_is, c.replace.ensures.after) (vacated_len _ _ _ c.self.invariant c.args.key (rw (← c.self.view_is) at c.requires))

pub returns-clause-room : goal.returns-clause-room
returns-clause-room g c =
    let fewer = returns-clause-len g c in
    let counted = c.self.invariant.sound.counted in
    let total = no_more _ _ _ c.self.invariant in
    let fits = c.self.invariant.fits in
    let within = c.self.inside.drawers.ok in
    let before : slab_len c.args.self.now ≡ c.self.inside.len = rw (← c.self.view_is) (sym counted) in
    omega arith

pub returns-clause-slots : goal.returns-clause-slots
returns-clause-slots g c = rw (← c.self.view_is, c.replace.ensures.after, map-set, map-set) refl
