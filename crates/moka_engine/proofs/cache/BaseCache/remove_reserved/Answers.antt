use Rattle.moka_engine.proofs.Keeping.{well-as, well-reserved_removal}
use Rattle.moka_engine.proofs.cache.BaseCache.remove_reserved.Goals as goal

pub invariant_of-self : goal.invariant_of-self
invariant_of-self g c = well-as _ _ c.remove_reserved.ensures.removed (well-reserved_removal g.K.PartialEq.eq (g.Q.Names.named_key c.args.key.now) c.self.inside.tables.state c.self.invariant)
