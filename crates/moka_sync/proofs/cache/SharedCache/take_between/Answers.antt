use Rattle.moka_sync.proofs.Telling.{adds-all, adds-none}
use Rattle.moka_sync.proofs.cache.SharedCache.take_between.Goals as goal

pub loop-number-init : goal.loop-number-init
loop-number-init g c = adds-none c.args.notices.now.items

pub loop-number-preserved : goal.loop-number-preserved
loop-number-preserved g c = adds-all _ _ _ c.loop-number.invariant c.take_from.ensures
