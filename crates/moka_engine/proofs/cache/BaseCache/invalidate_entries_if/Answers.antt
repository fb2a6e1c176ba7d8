use Rattle.engine_reference.specs.Calls.{with_predicate}
use Rattle.moka_engine.proofs.Keeping.{well-call, well-registered}
use Rattle.moka_engine.proofs.cache.BaseCache.invalidate_entries_if.Goals as goal

pub invariant_of-self : goal.invariant_of-self
invariant_of-self g c =
    let s = c.self.inside.tables.state in
    well-call c.invalidate.result c.self.inside.tables c.invalidate.new.tables (λ id. with_predicate (record { id = id; predicate = c.args.predicate; step = c.args.step }) s) c.invalidate.ensures.ok c.invalidate.ensures.err
    (λ id h. well-registered s _ s.reserved h) c.self.invariant
