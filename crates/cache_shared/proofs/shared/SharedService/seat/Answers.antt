use Rattle.cache_shared.proofs.Stepping.{guarded}
use Rattle.cache_shared.proofs.shared.SharedService.seat.Goals as goal

pub returns-clause-refused : goal.returns-clause-refused
returns-clause-refused g c = guarded _ _ c.seat.result c.deref_mut.result.now c.seat.ensures.refused
