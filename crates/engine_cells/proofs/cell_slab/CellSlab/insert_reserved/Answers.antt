use Rattle.std.proofs.Common.{refl, sym, ◌∙◌, ◌++◌, ◌∷◌, [], map, arith}
use Rattle.std.proofs.lemmas.List.{length-map, length_push}
use Rattle.slab.specs.Entry.{value_of}
use Rattle.engine_cells.specs.declared.cell_slab.Drawer.TheVariants as drawer
use Rattle.engine_cells.specs.Drawers.{slab_entry}
use Rattle.engine_cells.proofs.Drawers.{full, before_end, next_not_taken, next_vacant, pushed, filled, filled_len, updated}
use Rattle.engine_cells.proofs.cell_slab.CellSlab.insert_reserved.Goals as goal

pub push_reserved-requires : goal.push_reserved-requires
push_reserved-requires g c =
    let room = rw (← c.self.view_is) at c.requires in
    let all = full _ _ _ c.self.invariant (omega arith) in
    let counted = c.self.invariant.sound.counted in
    omega arith

pub invariant_of-self : goal.invariant_of-self
invariant_of-self g c =
    let room = rw (← c.self.view_is) at c.requires in
    let all = full _ _ _ c.self.invariant (omega arith) in
    let counted = c.self.invariant.sound.counted in
    rw c.push_reserved.ensures.items (pushed _ _ _ c.self.invariant c.args.value (omega arith) (omega arith))

pub returns-then-key-len-clause-key_in_range : goal.returns-then-key-len-clause-key_in_range
returns-then-key-len-clause-key_in_range g c =
    let room = rw (← c.self.view_is) at c.requires in
    let all = full _ _ _ c.self.invariant (omega arith) in
    let counted = c.self.invariant.sound.counted in
    omega arith

pub returns-then-key-len-clause-slots : goal.returns-then-key-len-clause-slots
returns-then-key-len-clause-slots g c =
    let all = full _ _ _ c.self.invariant (omega arith) in
    let counted = c.self.invariant.sound.counted in
    let items = c.self.inside.drawers.items in
    let taken = drawer.Taken c.args.value in
    let long = length-map (map slab_entry items) value_of ∙ length-map items slab_entry in
    let longer = length-map (map slab_entry (items ++ taken ∷ [])) value_of ∙ length-map (items ++ taken ∷ []) slab_entry ∙ length_push items taken in
    rw (← c.self.view_is, c.push_reserved.ensures.items) (omega (arith, all, counted, long, longer))

pub invariant_of-self-in-Vacant : goal.invariant_of-self-in-Vacant
invariant_of-self-in-Vacant g c = rw c.replace.ensures.after (filled _ _ _ c.self.invariant c.index_mut.result.now _ c.args.value (λ e. omega arith) c.index_mut.ensures.value (sym c.replace.ensures.value ∙ c.in-Vacant.is))

pub unreachable-requires : goal.unreachable-requires
unreachable-requires g c = next_not_taken _ _ _ c.self.invariant c.index_mut.result.now _ (λ e. omega arith) c.index_mut.ensures.value (sym c.replace.ensures.value ∙ c.in-Taken.is)

pub returns-clause-was_vacant : goal.returns-clause-was_vacant
returns-clause-was_vacant g c = rw (← c.self.view_is) (next_vacant _ _ _ c.self.invariant)

pub returns-clause-updates : goal.returns-clause-updates
returns-clause-updates g c = rw (← c.self.view_is, c.replace.ensures.after) (updated _ _ _ c.self.invariant _ _ c.self.inside.next _ (before_end _ _ _ c.self.invariant (λ e. omega arith)) refl refl)

pub returns-clause-len : goal.returns-clause-len
returns-clause-len g c = rw (← c.self.view_is, c.replace.ensures.after) (filled_len _ _ _ c.self.invariant c.index_mut.result.now _ c.args.value (λ e. omega arith) c.index_mut.ensures.value (sym c.replace.ensures.value ∙ c.in-Vacant.is))

pub returns-clause-key_in_range : goal.returns-clause-key_in_range
returns-clause-key_in_range g c = let fits = c.self.invariant.fits in omega (arith, before_end _ _ _ c.self.invariant (λ e. omega arith))
