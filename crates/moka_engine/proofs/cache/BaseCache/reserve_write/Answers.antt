use Rattle.std.proofs.Common.{ap}
use Rattle.moka_engine.proofs.Keeping.{well-as, well-room}
use Rattle.moka_engine.proofs.cache.BaseCache.reserve_write.Goals as goal

pub invariant_of-self : goal.invariant_of-self
invariant_of-self g c = well-as _ _ (ap (λ t. t.state) c.in_err-make_room.ensures.err) c.self.invariant

pub invariant_of-self-2 : goal.invariant_of-self-2
invariant_of-self-2 g c = well-as _ _ (ap (λ t. t.state) c.in_ok-make_room.ensures.ok) (well-room c.self.inside.tables.state _ c.self.invariant)
