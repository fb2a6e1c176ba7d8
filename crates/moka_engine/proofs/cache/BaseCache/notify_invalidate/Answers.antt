use Rattle.moka_engine.proofs.Keeping.{well-as, well-told}
use Rattle.moka_engine.proofs.cache.BaseCache.notify_invalidate.Goals as goal

pub invariant_of-self : goal.invariant_of-self
invariant_of-self g c = let s = c.self.inside.tables.state in well-as _ _ c.tell_removed.ensures (well-told s _ _ c.self.invariant)
