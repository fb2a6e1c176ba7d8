use Rattle.std.proofs.Common.{sym, ap, ◌∙◌, is_some}
use Rattle.policy_queue.proofs.Listed.{lacks_not_had}
use Rattle.policy_queue.proofs.Standing.{taken_has, holds_is, stale_lacked}
use Rattle.policy_queue.proofs.places.holds.Goals as goal

pub returns-then-not-contains : goal.returns-then-not-contains
returns-then-not-contains g c = sym (ap is_some (stale_lacked c.args.region c.args.nodes.now c.args.id c.args.slots.now.indices (lacks_not_had c.args.id.slot c.args.slots.now.indices (sym c.contains.ensures ∙ c.if-not-contains.true))))

pub id_of-requires : goal.id_of-requires
id_of-requires g c = taken_has c.args.nodes.now c.args.slots.now.indices c.args.id.slot c.requires (sym c.contains.ensures ∙ c.if-not-contains.false)

pub returns : goal.returns
returns g c = c.is_same.ensures.test ∙ holds_is c.args.region c.args.nodes.now c.args.slots.now.indices c.args.id c.id_of.result c.requires (sym c.contains.ensures ∙ c.if-not-contains.false) c.id_of.ensures
