use Rattle.moka_sync.proofs.Telling.{adds-all}
use Rattle.moka_sync.proofs.cache.SharedCache.take_notices.Goals as goal

pub returns : goal.returns
returns g c = adds-all _ _ _ c.take_between.ensures c.take_between-2.ensures
