use Rattle.engine_reference.specs.Calls.{sent}
use Rattle.moka_engine.proofs.Keeping.{well-whole, well-sent}
use Rattle.moka_engine.proofs.cache.BaseCache.send.Goals as goal

pub invariant_of-self : goal.invariant_of-self
invariant_of-self g c =
    let s = c.self.inside.tables.state in
    well-whole c.send.result c.self.inside.tables c.send.new.self (λ done. sent c.args.ticket s) c.send.ensures.ok c.send.ensures.err (λ done h. well-sent c.args.ticket s h) c.self.invariant
