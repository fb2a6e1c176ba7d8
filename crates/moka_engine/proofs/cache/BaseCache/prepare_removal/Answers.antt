use Rattle.engine_reference.specs.Calls.{with_removal_room}
use Rattle.engine_reference.specs.Records.{held_at}
use Rattle.moka_engine.proofs.Keeping.{well-call, well-removal_room}
use Rattle.moka_engine.proofs.cache.BaseCache.prepare_removal.Goals as goal

pub invariant_of-self : goal.invariant_of-self
invariant_of-self g c =
    let s = c.self.inside.tables.state in
    let o = held_at g.K.PartialEq.eq s.records (g.Q.Names.named_key c.args.key.now) in
    well-call c.prepare_removal.result c.self.inside.tables c.prepare_removal.new.tables (λ parts. with_removal_room o s) c.prepare_removal.ensures.ok c.prepare_removal.ensures.err (λ parts h. well-removal_room o s h) c.self.invariant
