use Rattle.std.proofs.Common.{ap}
use Rattle.moka_engine.proofs.Keeping.{well-as, well-told}
use Rattle.moka_engine.proofs.cache.BaseCache.next_notice.Goals as goal

pub invariant_of-self : goal.invariant_of-self
invariant_of-self g c = let s = c.self.inside.tables.state in well-as _ _ (ap (λ t. t.state) c.next_notice.ensures.taken) (well-told s _ s.reserved c.self.invariant)
