use Rattle.std.proofs.Common.{ap, ◌∙◌}
use Rattle.audit_situation.specs.Held.Slots.{slot_of_key}
use Rattle.audit_situation.proofs.held.Listing.{lent_is}
use Rattle.audit_situation.proofs.held.table.Table.get.Goals as goal

pub returns : goal.returns
returns c = lent_is c.args.key.now c.self.inside.values.entries c.get.result c.self.inside.apart c.get.ensures.value ∙ ap (slot_of_key c.args.key.now) c.self.view_is
