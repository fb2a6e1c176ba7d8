use Rattle.std.proofs.Common.{ap}
use Rattle.moka_engine.proofs.Keeping.{well-as, well-cleared}
use Rattle.moka_engine.proofs.cache.BaseCache.invalidate_all.Goals as goal

pub invariant_of-self : goal.invariant_of-self
invariant_of-self g c = let s = c.self.inside.tables.state in well-as _ _ (ap (λ t. t.state) c.clear.ensures) (well-cleared s _ c.self.invariant)
