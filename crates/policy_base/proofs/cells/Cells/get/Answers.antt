use Rattle.std.proofs.Common.{sym, ap, ◌∙◌}
use Rattle.slab.specs.Entry.{value_of}
use Rattle.policy_base.specs.Cells.{slab_entry_of}
use Rattle.policy_base.proofs.Sound.{read_value, past}
use Rattle.policy_base.proofs.cells.Cells.get.Goals as goal

pub returns-in-Some-Taken-clause-value : goal.returns-in-Some-Taken-clause-value
returns-in-Some-Taken-clause-value g c =
    let lookup = rw c.deref.ensures.value at c.in-Some-Taken.ensures.lookup in
    rw (← c.self.view_is) (sym (read_value _ _ _ c.self.invariant c.args.key c.in-Some-Taken.field-0.now lookup.3.0 lookup.1 ∙ ap (λ x. value_of (slab_entry_of x)) c.in-Some-Taken.field-0-is))

pub returns-in-Some-Vacant-clause-value : goal.returns-in-Some-Vacant-clause-value
returns-in-Some-Vacant-clause-value g c =
    let lookup = rw c.deref.ensures.value at c.in-Some-Vacant.ensures.lookup in
    rw (← c.self.view_is) (sym (read_value _ _ _ c.self.invariant c.args.key c.in-Some-Vacant.field-0.now lookup.3.0 lookup.1 ∙ ap (λ x. value_of (slab_entry_of x)) c.in-Some-Vacant.field-0-is))

pub returns-in-None-clause-value : goal.returns-in-None-clause-value
returns-in-None-clause-value g c =
    let lookup = rw c.deref.ensures.value at c.in-None.ensures.lookup in
    rw (← c.self.view_is) (sym (past _ _ _ c.self.invariant c.args.key lookup.3))
