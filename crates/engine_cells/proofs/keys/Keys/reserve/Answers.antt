use Rattle.std.proofs.Common.{ap, length, arith}
use Rattle.std.proofs.lemmas.List.{length-replicate}
use Rattle.engine_cells.specs.Keys.Slots.{vacant_slot}
use Rattle.engine_cells.proofs.keys.Putting.{all-gain}
use Rattle.engine_cells.proofs.keys.Keys.reserve.Goals as goal

pub returns-clause-stays : goal.returns-clause-stays
returns-clause-stays c =
    let many = ap length c.in_ok-slots.ensures in
    rw (← c.self.view_is)
    (all-gain _ _ c.put_all.ensures.same _ _ (omega (arith, c.put_all.ensures.length, many, length-replicate c.slots_for-many.result vacant_slot, c.slots_for-many.ensures, c.in-Some.ensures, c.if-additional-most_in.false, c.most_in.ensures)))
