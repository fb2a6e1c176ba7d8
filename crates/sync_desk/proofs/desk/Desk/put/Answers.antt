use Rattle.std.specs.Prelude.{is_ok}
use Rattle.front_reference.specs.declared.data.TurnKind.TheVariants as kinds
use Rattle.sync_desk.proofs.Telling.{told_given_up}
use Rattle.sync_desk.proofs.desk.Desk.put.Goals as goal

pub returns-clause-told : goal.returns-clause-told
returns-clause-told g c =
    told_given_up kinds.Compute c.args.number c.args.self.now.slots.slots c.end_with.new.self.slots.slots (is_ok c.end_with.result) c.end_with.ensures.told
