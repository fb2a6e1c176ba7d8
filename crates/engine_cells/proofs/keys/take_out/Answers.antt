use Rattle.engine_cells.proofs.keys.Moving.{taken-found, taken-lost}
use Rattle.engine_cells.proofs.keys.take_out.Goals as goal

pub returns-clause-taken : goal.returns-clause-taken
returns-clause-taken c = taken-lost c.args.slots.now.items c.move_up-hole.new.slots.items c.args.from c.move_up-hole.result c.requires.there c.requires.found c.move_up-hole.ensures.holed c.move_up-hole.ensures.apart

pub returns-clause-found : goal.returns-clause-found
returns-clause-found c = taken-found c.args.slots.now.items c.move_up-hole.new.slots.items c.args.from c.move_up-hole.result c.requires.there c.requires.found c.move_up-hole.ensures.holed c.move_up-hole.ensures.apart
