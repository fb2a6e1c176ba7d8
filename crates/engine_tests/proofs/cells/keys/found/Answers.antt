use Rattle.engine_tests.proofs.cells.keys.found.Goals as goal

pub put-requires-clause-absent : goal.put-requires-clause-absent
put-requires-clause-absent c u = c.new-keys.ensures 7 10 (c.makes_room.ensures.stays.only 7 10 u)
