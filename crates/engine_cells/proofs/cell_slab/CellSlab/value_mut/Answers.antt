use Rattle.std.proofs.Common.{refl, subst, IsSome, ◌∙◌}
use Rattle.std.proofs.lemmas.List.{map-set}
use Rattle.engine_cells.proofs.Drawers.{taken_within, read_value, rewritten}
use Rattle.engine_cells.proofs.cell_slab.CellSlab.value_mut.Goals as goal

pub invariant_of-self-lent : goal.invariant_of-self-lent
invariant_of-self-lent g c w = rewritten _ _ _ c.self.invariant c.args.key (rw (← c.self.view_is) at c.requires) w

pub value_mut-requires : goal.value_mut-requires
value_mut-requires g c =
    let present = rw (← c.self.view_is) at c.requires in
    let within = taken_within _ _ _ c.self.invariant c.args.key present in
    subst IsSome (read_value _ _ _ c.self.invariant c.args.key c.index_mut.result.now within c.index_mut.ensures.value) present

pub returns : goal.returns
returns g c =
    let within = taken_within _ _ _ c.self.invariant c.args.key (rw (← c.self.view_is) at c.requires) in
    let value = read_value _ _ _ c.self.invariant c.args.key c.index_mut.result.now within c.index_mut.ensures.value in (
      (refl, λ w. rw (← c.self.view_is, map-set, map-set)),
      record { writes_back = tt; value = rw (← c.self.view_is) (value ∙ c.value_mut.ensures.value) },
    )
