use Rattle.sync_desk.proofs.Telling.{told_made}
use Rattle.sync_desk.proofs.desk.Desk.finish.Goals as goal

pub returns-in-Ok-clause-told : goal.returns-in-Ok-clause-told
returns-in-Ok-clause-told g c exact =
    told_made c.args.kind c.args.number c.args.self.now.slots.slots c.end_with.new.self.slots.slots c.in-Ok.ending c.args.made c.end_with.result (c.in-Ok.ensures.copy exact) c.end_with.ensures.told
