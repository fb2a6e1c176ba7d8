use Rattle.std.proofs.Common.{sym, ap, ◌∙◌}
use Rattle.policy_queue.specs.Queue.{head}
use Rattle.policy_queue.proofs.Standing.{found_at, has_found, slots_behind, taken_behind, taken_head, off_next, off_last}
use Rattle.policy_queue.proofs.places.cursor_leaving.Goals as goal

pub behind-requires : goal.behind-requires
behind-requires g c = has_found c.args.region c.args.nodes.now c.args.slots.now.indices c.args.id (found_at c.args.region c.args.nodes.now c.args.slots.now.indices c.args.id c.requires.taken c.requires.there)

pub id_of-requires : goal.id_of-requires
id_of-requires g c =
    let f = found_at c.args.region c.args.nodes.now c.args.slots.now.indices c.args.id c.requires.taken c.requires.there in
    taken_head c.args.nodes.now f.behind c.in-Some.next (taken_behind c.args.region c.args.nodes.now c.args.slots.now.indices c.args.id f c.requires.taken) (ap head (sym (slots_behind c.args.region c.args.nodes.now c.args.slots.now.indices c.args.id f)) ∙ sym c.in-Some.ensures)

pub returns-in-Some : goal.returns-in-Some
returns-in-Some g c = rw (c.in-At.is) (off_next c.args.region c.args.nodes.now c.args.slots.now.indices c.args.id c.in-At.at c.args.last (found_at c.args.region c.args.nodes.now c.args.slots.now.indices c.args.id c.requires.taken c.requires.there) (sym c.is_same.ensures.test ∙ c.if-is_same.true) c.in-Some.next c.id_of.result c.requires.taken (sym c.in-Some.ensures) c.id_of.ensures)

pub returns-in-None : goal.returns-in-None
returns-in-None g c = rw (c.in-At.is) (off_last c.args.region c.args.nodes.now c.args.slots.now.indices c.args.id c.in-At.at c.args.last (found_at c.args.region c.args.nodes.now c.args.slots.now.indices c.args.id c.requires.taken c.requires.there) (sym c.is_same.ensures.test ∙ c.if-is_same.true) (sym c.in-None.ensures))
