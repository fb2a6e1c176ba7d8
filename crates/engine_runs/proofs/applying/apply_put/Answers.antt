use Rattle.engine_runs.proofs.applying.apply_put.Goals as goal

pub apply_found-requires : goal.apply_found-requires
apply_found-requires g c = c.has_record.ensures.there c.if-has_record.true
