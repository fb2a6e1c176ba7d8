use Rattle.std.proofs.Common.{sym, ap, ◌∙◌}
use Rattle.slab.specs.Entry.{value_of}
use Rattle.engine_cells.specs.Drawers.{slab_entry}
use Rattle.engine_cells.proofs.Drawers.{read_value, past}
use Rattle.engine_cells.proofs.cell_slab.CellSlab.get.Goals as goal

pub returns-in-Some-Taken : goal.returns-in-Some-Taken
returns-in-Some-Taken g c =
    let lookup = rw c.deref.ensures.value at c.in-Some-Taken.ensures.lookup in
    rw (← c.self.view_is) (sym (read_value _ _ _ c.self.invariant c.args.key c.in-Some-Taken.field-0.now lookup.3.0 lookup.1 ∙ ap (λ x. value_of (slab_entry x)) c.in-Some-Taken.field-0-is))

pub returns-in-Some-Vacant : goal.returns-in-Some-Vacant
returns-in-Some-Vacant g c =
    let lookup = rw c.deref.ensures.value at c.in-Some-Vacant.ensures.lookup in
    rw (← c.self.view_is) (sym (read_value _ _ _ c.self.invariant c.args.key c.in-Some-Vacant.field-0.now lookup.3.0 lookup.1 ∙ ap (λ x. value_of (slab_entry x)) c.in-Some-Vacant.field-0-is))

pub returns-in-None : goal.returns-in-None
returns-in-None g c =
    let lookup = rw c.deref.ensures.value at c.in-None.ensures.lookup in
    rw (← c.self.view_is) (sym (past _ _ _ c.self.invariant c.args.key lookup.3))
