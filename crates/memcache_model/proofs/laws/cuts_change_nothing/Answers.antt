use Rattle.memcache_model.proofs.Fronts.{cuts}
use Rattle.memcache_model.proofs.laws.cuts_change_nothing.Goals as goal

pub returns : goal.returns
returns c = cuts
