use Rattle.moka_engine.proofs.Keeping.{well-as, well-registered}
use Rattle.moka_engine.proofs.cache.BaseCache.commit_predicate.Goals as goal

pub invariant_of-self : goal.invariant_of-self
invariant_of-self g c = let s = c.self.inside.tables.state in well-as _ _ c.commit.ensures (well-registered s _ _ c.self.invariant)
