use Rattle.engine_tables.proofs.tables.Tables.count_hash.Goals as goal

pub invariant_of-self : goal.invariant_of-self
invariant_of-self g c = rw c.count_hash.ensures c.self.invariant
