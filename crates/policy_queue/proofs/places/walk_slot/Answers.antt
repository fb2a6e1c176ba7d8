use Rattle.std.proofs.Common.{sym, ◌∙◌}
use Rattle.policy_queue.proofs.Live.{from_none}
use Rattle.policy_queue.proofs.Standing.{found_at, has_found, nodes_from-here, not_some}
use Rattle.policy_queue.proofs.places.walk_slot.Goals as goal

pub returns-then-holds-clause-gives : goal.returns-then-holds-clause-gives
returns-then-holds-clause-gives g c = rw (c.in-At.is) (sym (nodes_from-here c.args.region c.args.nodes.now c.args.slots.now.indices c.in-At.id (found_at c.args.region c.args.nodes.now c.args.slots.now.indices c.in-At.id c.requires (sym c.holds.ensures ∙ c.if-holds.true))))

pub returns-then-holds-clause-there : goal.returns-then-holds-clause-there
returns-then-holds-clause-there g c = has_found c.args.region c.args.nodes.now c.args.slots.now.indices c.in-At.id (found_at c.args.region c.args.nodes.now c.args.slots.now.indices c.in-At.id c.requires (sym c.holds.ensures ∙ c.if-holds.true))

pub returns-else-holds-clause-gives : goal.returns-else-holds-clause-gives
returns-else-holds-clause-gives g c = rw (c.in-At.is) (from_none c.in-At.id _ (not_some _ (sym c.holds.ensures ∙ c.if-holds.false)))
