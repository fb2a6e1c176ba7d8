use Rattle.engine_reference.specs.Calls.{with_room}
use Rattle.moka_engine.proofs.Keeping.{well-whole, well-room}
use Rattle.moka_engine.proofs.cache.BaseCache.reserve_predicate.Goals as goal

pub invariant_of-self : goal.invariant_of-self
invariant_of-self g c =
    let s = c.self.inside.tables.state in
    well-whole c.reserve.result c.self.inside.tables c.reserve.new.tables (λ done. with_room s) c.reserve.ensures.ok c.reserve.ensures.err (λ done h. well-room s _ h) c.self.invariant
