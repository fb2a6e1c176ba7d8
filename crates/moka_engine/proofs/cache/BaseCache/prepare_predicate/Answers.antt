use Rattle.engine_reference.specs.Calls.{with_room}
use Rattle.moka_engine.proofs.Keeping.{well-call, well-room}
use Rattle.moka_engine.proofs.cache.BaseCache.prepare_predicate.Goals as goal

pub invariant_of-self : goal.invariant_of-self
invariant_of-self g c =
    let s = c.self.inside.tables.state in
    well-call c.prepare.result c.self.inside.tables c.prepare.new.tables (λ id. with_room s) c.prepare.ensures.ok c.prepare.ensures.err (λ id h. well-room s _ h) c.self.invariant
